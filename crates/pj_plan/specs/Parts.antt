-- The parts of a statement: what it declares, uses and names.
use Rattle.std.specs.Prelude.{ℕ, Bool, true, false, List, [], ◌∷◌, Option, Some, None}
use Rattle.pj_plan.specs.declared.fault.PlanWhy.{PlanWhy}
use Rattle.pj_plan.specs.declared.statement.Statement.{Statement}
use Rattle.pj_plan.specs.declared.statement.Statement.TheVariants.{Plan, Stream, Scheme, Select, Project, Union, Join, Group, Output, Bad}
use Rattle.pj_plan.specs.declared.statement.TestWord.{TestWord}
use Rattle.pj_plan.specs.declared.statement.Renamed.{Renamed}
use Rattle.pj_plan.specs.declared.statement.NamedAgg.{NamedAgg}

-- the version of a `plan`; what is wrong with a bad line; the node that is declared, and whether it is a stream; the nodes that
-- are used, whether their columns are to be alike, and those whose columns may be named; the words that name columns; the stream
-- of a scheme, and its marks; the output
pub record Parts : Type 0 where
  pub version : Option ℕ
  pub bad : Option PlanWhy
  pub declares : Option (List ℕ)
  pub source : Bool
  pub uses : List (List ℕ)
  pub alike : Bool
  pub scope : List (List ℕ)
  pub tests : List TestWord
  pub renamed : List Renamed
  pub classes : List (List (List ℕ))
  pub keys : List (List ℕ)
  pub aggs : List NamedAgg
  pub stream : Option (List ℕ)
  pub marks : List Bool
  pub output : Option (List ℕ)

-- none of all
abbrev pub no_parts : Parts
no_parts = record {
  version = None;
  bad = None;
  declares = None;
  source = false;
  uses = [];
  alike = false;
  scope = [];
  tests = [];
  renamed = [];
  classes = [];
  keys = [];
  aggs = [];
  stream = None;
  marks = [];
  output = None;
}

abbrev pub parts_of : Statement → Parts
parts_of (Plan version) = record no_parts { version = Some version }
parts_of (Stream name columns) = record no_parts { declares = Some name; source = true }
parts_of (Scheme stream marks) = record no_parts { stream = Some stream; marks = marks }
parts_of (Select name input tests) = record no_parts { declares = Some name; uses = input ∷ []; scope = input ∷ []; tests = tests }
parts_of (Project name input columns) = record no_parts { declares = Some name; uses = input ∷ []; scope = input ∷ []; renamed = columns }
parts_of (Union name inputs) = record no_parts { declares = Some name; uses = inputs; alike = true }
parts_of (Join name inputs classes) = record no_parts { declares = Some name; uses = inputs; scope = inputs; classes = classes }
parts_of (Group name input keys aggs) = record no_parts { declares = Some name; uses = input ∷ []; scope = input ∷ []; keys = keys; aggs = aggs }
parts_of (Output name) = record no_parts { uses = name ∷ []; output = Some name }
parts_of (Bad why) = record no_parts { bad = Some why }
