-- What a core hands out at a sweep besides elements.
use Rattle.std.specs.Prelude.{ℕ, Bool, if◌then◌else◌, List, [], map}
use Rattle.pj_value.specs.declared.values.Value.{Value}
use Rattle.pj_events.specs.declared.events.Out.{Out}
use Rattle.pj_events.specs.declared.events.Out.TheVariants.{Purged}

-- with a trace a note of each of these rows that were removed from an input of a join
abbrev pub notes_out : Bool → ℕ → ℕ → List (List Value) → List Out
notes_out trace join input rows = if trace then map (Purged join input) rows else []
