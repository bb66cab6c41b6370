-- A join with a column of each sort, for the tests.
use Rattle.std.specs.Prelude.{ℕ, ◌≡◌, pos, List, [], ◌∷◌, codes}
use Rattle.pj_value.specs.declared.values.Kind.{Kind}
use Rattle.pj_value.specs.declared.values.Kind.TheVariants.{Int as KInt, Text as KText}
use Rattle.pj_value.specs.declared.values.Value.{Value}
use Rattle.pj_value.specs.declared.values.Value.TheVariants.{Int, Text}
use Rattle.pj_shape.specs.declared.columns.Column.{Column}
use Rattle.pj_shape.specs.declared.columns.Instance.{Instance}
use Rattle.pj_shape.specs.declared.joins.JoinSpec.{JoinSpec}
use Rattle.pj_test_plans.specs.ThreeInputs.{at}
use Rattle.pj_cert.specs.Escaping.{escape_rows}

abbrev pub of_kind : Kind → Column
of_kind kind = record { name = codes "c"; kind = kind }

-- the first columns are equal, and the third column of the second input is the second column of the third
abbrev pub mixed : JoinSpec
mixed = record {
  inputs =
      (of_kind KInt ∷ of_kind KText ∷ [])
      ∷ (of_kind KInt ∷ of_kind KText ∷ of_kind KInt ∷ of_kind KInt ∷ [])
      ∷ (of_kind KInt ∷ of_kind KInt ∷ of_kind KText ∷ [])
      ∷ [];
  classes = (at 0 0 ∷ at 1 0 ∷ at 2 0 ∷ []) ∷ (at 1 2 ∷ at 2 1 ∷ []) ∷ [];
}

abbrev pub number : ℕ → Value
number n = Int (pos n)

-- one instance of the second input
abbrev pub mixed_listed : List Instance
mixed_listed = record { input = 1; scheme = 0; constants = number 7 ∷ Text (codes "ab") ∷ number 0 ∷ [] } ∷ []

-- where the third input is reached from the first, it has 0 and the empty text beside the given 7, and the second has the
-- fresh values "aaa" and 1 in the columns outside all classes
abbrev pub MixedRows : Type 0
MixedRows =
    escape_rows mixed 0 (0 ∷ 2 ∷ []) (number 7 ∷ Text (codes "x") ∷ []) mixed_listed
    ≡ (number 7 ∷ Text (codes "x") ∷ [])
    ∷ (number 7 ∷ Text (codes "aaa") ∷ number 0 ∷ number 1 ∷ [])
    ∷ (number 7 ∷ number 0 ∷ Text [] ∷ [])
    ∷ []
