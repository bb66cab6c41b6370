-- A join of three inputs in a chain, for the tests.
use Rattle.std.specs.Prelude.{ℕ, true, false, ◌==◌, if◌then◌else◌, List, [], ◌∷◌, Bool, codes}
use Rattle.pj_value.specs.declared.values.Value.{Value}
use Rattle.pj_value.specs.declared.values.Kind.TheVariants.{Int}
use Rattle.pj_shape.specs.declared.columns.Column.{Column}
use Rattle.pj_shape.specs.declared.joins.ClassCol.{ClassCol}
use Rattle.pj_shape.specs.declared.joins.CertStep.{CertStep}
use Rattle.pj_shape.specs.declared.joins.JoinSpec.{JoinSpec}

abbrev pub number : Column
number = record { name = codes "n"; kind = Int }

abbrev pub pair : List Column
pair = number ∷ number ∷ []

abbrev pub pairs : List (List Column)
pairs = pair ∷ pair ∷ pair ∷ []

abbrev pub at : ℕ → ℕ → ClassCol
at input column = record { input = input; column = column }

abbrev pub firsts : List ClassCol
firsts = at 0 0 ∷ at 1 0 ∷ []

abbrev pub seconds : List ClassCol
seconds = at 1 1 ∷ at 2 1 ∷ []

-- the first columns of the first two are equal, and the second columns of the last two
abbrev pub chain : JoinSpec
chain = record { inputs = pairs; classes = firsts ∷ seconds ∷ [] }

abbrev pub chain_schemes : List (List (List Bool))
chain_schemes = ((true ∷ false ∷ []) ∷ []) ∷ ((true ∷ false ∷ []) ∷ []) ∷ ((false ∷ true ∷ []) ∷ []) ∷ []

-- the certificate of the first input
abbrev pub chain_cert : List CertStep
chain_cert = record { input = 1; scheme = 0 } ∷ record { input = 2; scheme = 0 } ∷ []

-- two rows of the second input
abbrev pub two_rows : List Value → List Value → ℕ → List (ℕ × List Value)
two_rows one other input = if input == 1 then (1, one) ∷ (2, other) ∷ [] else []
