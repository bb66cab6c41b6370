-- What the words of a statement name.
use Rattle.std.specs.Prelude.{ℕ, Bool, false, ◌||◌, List, [], ◌∷◌, ◌++◌, Option, map, flat_map}
use Rattle.std.specs.List.{list_any}
use Rattle.std.specs.Str.{bytes_eq}
use Rattle.pj_plan.specs.declared.fault.PlanWhy.{PlanWhy}
use Rattle.pj_plan.specs.declared.statement.Statement.{Statement}
use Rattle.pj_plan.specs.declared.statement.AggWord.{AggWord}
use Rattle.pj_plan.specs.declared.statement.AggWord.TheVariants.{Count, Sum, Min, Max}
use Rattle.pj_plan.specs.Parts.{Parts, parts_of}

-- the version, where it is `plan`
abbrev pub plan_version : Statement → Option ℕ
plan_version statement = (parts_of statement).version

-- what is wrong with the line, where it is a bad one
abbrev pub bad_why : Statement → Option PlanWhy
bad_why statement = (parts_of statement).bad

-- the name of the node that it declares
abbrev pub new_name : Statement → Option (List ℕ)
new_name statement = (parts_of statement).declares

-- the names of the nodes that it uses
abbrev pub used_names : Statement → List (List ℕ)
used_names statement = (parts_of statement).uses

-- the names of the nodes whose columns it may name
abbrev pub scope_of : Statement → List (List ℕ)
scope_of statement = (parts_of statement).scope

-- the column of an aggregate
abbrev pub agg_columns : AggWord → List (List ℕ)
agg_columns Count = []
agg_columns (Sum column) = column ∷ []
agg_columns (Min column) = column ∷ []
agg_columns (Max column) = column ∷ []

-- the names of columns in tests, renamed columns, classes, group columns and aggregates
abbrev pub columns_in : Parts → List (List ℕ)
columns_in parts =
    map (λ test. test.column) parts.tests ++ (map (λ column. column.old) parts.renamed
    ++ (flat_map (λ class. class) parts.classes ++ (parts.keys ++ flat_map (λ agg. agg_columns agg.agg) parts.aggs)))

-- the names of columns of its inputs
abbrev pub named_columns : Statement → List (List ℕ)
named_columns statement = columns_in (parts_of statement)

-- the name is one of these
abbrev pub is_among : List (List ℕ) → List ℕ → Bool
is_among names name = list_any (bytes_eq name) names

-- a name stands twice
abbrev pub repeats : List (List ℕ) → Bool
repeats [] = false
repeats (name ∷ names) = is_among names name || repeats names
