-- Joins of three and of two inputs, for the tests.
use Rattle.std.specs.Prelude.{ℕ, Bool, true, false, List, [], ◌∷◌, codes}
use Rattle.pj_value.specs.declared.values.Kind.TheVariants.{Int, Text}
use Rattle.pj_shape.specs.declared.columns.Column.{Column}
use Rattle.pj_shape.specs.declared.joins.CertStep.{CertStep}
use Rattle.pj_shape.specs.declared.joins.ClassCol.{ClassCol}
use Rattle.pj_shape.specs.declared.joins.JoinSpec.{JoinSpec}
use Rattle.pj_events.specs.Join.{JoinData}
use Rattle.pj_join.specs.Joins.{join_data}

abbrev pub number : Column
number = record { name = codes "n"; kind = Int }

abbrev pub word : Column
word = record { name = codes "w"; kind = Text }

abbrev pub pair : List Column
pair = number ∷ number ∷ []

abbrev pub named : List Column
named = number ∷ word ∷ []

abbrev pub at : ℕ → ℕ → ClassCol
at input column = record { input = input; column = column }

abbrev pub by : ℕ → ℕ → CertStep
by input scheme = record { input = input; scheme = scheme }

abbrev pub first_marked : List Bool
first_marked = true ∷ false ∷ []

abbrev pub second_marked : List Bool
second_marked = false ∷ true ∷ []

-- the first columns of the first two inputs are equal, and the second columns of the last two
abbrev pub triple : JoinSpec
triple = record { inputs = pair ∷ pair ∷ pair ∷ []; classes = (at 0 0 ∷ at 1 0 ∷ []) ∷ (at 1 1 ∷ at 2 1 ∷ []) ∷ [] }

-- each input has a scheme on each of its columns that a class has
abbrev pub triple_schemes : List (List (List Bool))
triple_schemes = (first_marked ∷ []) ∷ (first_marked ∷ second_marked ∷ []) ∷ (second_marked ∷ []) ∷ []

abbrev pub triple_certs : List (List CertStep)
triple_certs = (by 1 0 ∷ by 2 0 ∷ []) ∷ (by 0 0 ∷ by 2 0 ∷ []) ∷ (by 1 1 ∷ by 0 0 ∷ []) ∷ []

abbrev pub triple_join : JoinData
triple_join = join_data triple triple_schemes triple_certs

-- each two of three inputs share a column
abbrev pub triangle : JoinSpec
triangle = record { inputs = pair ∷ pair ∷ pair ∷ []; classes = (at 0 0 ∷ at 1 0 ∷ []) ∷ (at 1 1 ∷ at 2 0 ∷ []) ∷ (at 0 1 ∷ at 2 1 ∷ []) ∷ [] }

abbrev pub triangle_schemes : List (List (List Bool))
triangle_schemes = (first_marked ∷ []) ∷ (first_marked ∷ second_marked ∷ []) ∷ (first_marked ∷ second_marked ∷ []) ∷ []

abbrev pub triangle_certs : List (List CertStep)
triangle_certs = (by 1 0 ∷ by 2 0 ∷ []) ∷ (by 0 0 ∷ by 2 1 ∷ []) ∷ (by 1 1 ∷ by 0 0 ∷ []) ∷ []

abbrev pub triangle_join : JoinData
triangle_join = join_data triangle triangle_schemes triangle_certs

-- items, and bids for them: the first columns are equal
abbrev pub double : JoinSpec
double = record { inputs = named ∷ pair ∷ []; classes = (at 0 0 ∷ at 1 0 ∷ []) ∷ [] }

abbrev pub double_schemes : List (List (List Bool))
double_schemes = (first_marked ∷ []) ∷ (first_marked ∷ []) ∷ []

abbrev pub double_certs : List (List CertStep)
double_certs = (by 1 0 ∷ []) ∷ (by 0 0 ∷ []) ∷ []

abbrev pub double_join : JoinData
double_join = join_data double double_schemes double_certs
