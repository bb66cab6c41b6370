-- Which joins are sound, and which schemes fit them.
use Rattle.std.specs.Prelude.{ℕ, ◌≤◌, ◌≡◌, ◌≢◌, Bool, List, [], ◌∷◌, map, length, sum, slice_get, Some}
use Rattle.pj_value.specs.declared.values.Kind.{Kind}
use Rattle.pj_value.specs.Lists.{In}
use Rattle.pj_shape.specs.declared.columns.Column.{Column}
use Rattle.pj_shape.specs.declared.joins.ClassCol.{ClassCol}
use Rattle.pj_shape.specs.declared.joins.JoinSpec.{JoinSpec}

-- the numbers of columns of these schemas
abbrev pub arities_of : List (List Column) → List ℕ
arities_of schemas = map length schemas

-- there is such a column, and its values are of this kind
abbrev pub IsOfKind : List (List Column) → ClassCol → Kind → Type 0
IsOfKind schemas at kind =
    (schema : List Column) × (column : Column)
    × (slice_get schemas at.input ≡ Some schema) × (slice_get schema at.column ≡ Some column) × (column.kind ≡ kind)

-- no two columns of the class are of one input
abbrev pub AreOfOtherInputs : List ClassCol → Type 0
AreOfOtherInputs [] = Unit {0}
AreOfOtherInputs (at ∷ class) = ((other : ClassCol) → In other class → other.input ≢ at.input) × AreOfOtherInputs class

-- the class names columns of at least two inputs, at most one of each, all there and of one kind
pub record IsSoundClass (schemas : List (List Column)) (class : List ClassCol) : Type 0 where
  pub several : 2 ≤ length class
  pub one_each : AreOfOtherInputs class
  pub same_kind : (kind : Kind) × ((at : ClassCol) → In at class → IsOfKind schemas at kind)

-- no column stands in two of the classes
abbrev pub AreApart : List (List ClassCol) → Type 0
AreApart [] = Unit {0}
AreApart (class ∷ classes) =
    ((other : List ClassCol) → In other classes → (at : ClassCol) → In at class → ¬ In at other) × AreApart classes

-- 2 to 16 inputs, 1 to 32 classes, at most 120 columns in all; each class is sound, and no column stands in two
pub record IsSoundSpec (spec : JoinSpec) : Type 0 where
  pub few_inputs : (2 ≤ length spec.inputs) × (length spec.inputs ≤ 16)
  pub few_classes : (1 ≤ length spec.classes) × (length spec.classes ≤ 32)
  pub few_columns : sum (arities_of spec.inputs) ≤ 120
  pub sound_classes : (class : List ClassCol) → In class spec.classes → IsSoundClass spec.inputs class
  pub apart : AreApart spec.classes

-- one list of schemes for each input, each scheme as long as its input's schema
abbrev pub FitSchemes : List (List Column) → List (List (List Bool)) → Type 0
FitSchemes [] [] = Unit {0}
FitSchemes [] (list ∷ lists) = ⊥
FitSchemes (schema ∷ schemas) [] = ⊥
FitSchemes (schema ∷ schemas) (list ∷ lists) =
    ((marks : List Bool) → In marks list → length marks ≡ length schema) × FitSchemes schemas lists
