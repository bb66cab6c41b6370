-- What a group is seen as.
use Rattle.std.specs.Prelude.{◌≡◌, ℕ, List}
use Rattle.pj_value.specs.declared.values.Value.{Value}
use Rattle.pj_events.specs.Operators.{GroupSpec}
use Rattle.pj_events.specs.Tables.{GroupTable, table_of}

-- what it groups by and makes, how many elements may come, how many came, and an entry for each distinct key, in the
-- order of their first rows
pub record GroupView : Type 0 where
  pub spec : GroupSpec
  pub limit : ℕ
  pub count : ℕ
  pub table : GroupTable

-- it keeps what comes of these rows
abbrev pub StandsFor : GroupView → List (List Value) → Type 0
StandsFor group rows = group.table ≡ table_of group.spec rows
