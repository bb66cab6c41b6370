-- Instances of the schemes of a join's inputs, and which rows match them.
use Rattle.std.specs.Prelude.{ℕ, ◌+◌, ◌<◌, ◌≡◌, Bool, true, false, if◌then◌else◌, List, [], ◌∷◌, ◌++◌, map, flat_map, length, slice_index_or, Option}
use Rattle.std.specs.Prelude.{pos}
use Rattle.pj_value.specs.declared.values.Kind.{Kind}
use Rattle.pj_value.specs.declared.values.Kind.TheVariants.{Int as KInt, Text as KText}
use Rattle.pj_value.specs.declared.values.Value.{Value}
use Rattle.pj_value.specs.declared.values.Value.TheVariants.{Int, Text}
use Rattle.pj_value.specs.Lists.{In, has}
use Rattle.pj_value.specs.Values.{Domain}
use Rattle.pj_shape.specs.declared.columns.Column.{Column}
use Rattle.pj_shape.specs.declared.columns.Instance.{Instance}
use Rattle.pj_shape.specs.declared.joins.JoinSpec.{JoinSpec}
use Rattle.pj_shape.specs.Columns.{domains_of}
use Rattle.pj_shape.specs.Instances.{instance_of}
use Rattle.pj_shape.specs.Sets.{schemes_of}

-- the items at the marked places
abbrev pub marked : {A : Type 0} → List Bool → List A → List A
marked [] items = []
marked (mark ∷ marks) [] = []
marked (true ∷ marks) (item ∷ items) = item ∷ marked marks items
marked (false ∷ marks) (item ∷ items) = marked marks items

-- the marks of the instance's scheme
abbrev pub scheme_of : List (List (List Bool)) → Instance → List Bool
scheme_of schemes instance = slice_index_or (schemes_of schemes instance.input) instance.scheme []

-- the constant in each marked column of the instance's scheme
abbrev pub cells_of : List (List (List Bool)) → Instance → List (Option Value)
cells_of schemes instance = instance_of (scheme_of schemes instance) instance.constants

-- the instance is of a scheme that is given for its input, with a constant for each marked column
pub record IsInstance (spec : JoinSpec) (schemes : List (List (List Bool))) (instance : Instance) : Type 0 where
  pub of_input : instance.input < length spec.inputs
  pub of_scheme : instance.scheme < length (schemes_of schemes instance.input)
  pub filled : length instance.constants ≡ length (marked (scheme_of schemes instance) (scheme_of schemes instance))

-- each of these is one
abbrev pub AreInstances : JoinSpec → List (List (List Bool)) → List Instance → Type 0
AreInstances spec schemes listed = (instance : Instance) → In instance listed → IsInstance spec schemes instance

-- the constants of these instances
abbrev pub constants_of : List Instance → List Value
constants_of listed = flat_map (λ instance. instance.constants) listed

-- 0 or the empty text
abbrev pub blank : Kind → Value
blank KInt = Int (pos 0)
blank KText = Text []

-- such a value for each of these kinds
abbrev pub blanks : List Domain → List Value
blanks kinds = map blank kinds

-- for each of these schemes of the input, of which the first has this number, the instance whose constants are 0 and empty texts
abbrev pub blank_ones : ℕ → List Domain → ℕ → List (List Bool) → List Instance
blank_ones input kinds scheme [] = []
blank_ones input kinds scheme (marks ∷ list) =
    record { input = input; scheme = scheme; constants = blanks (marked marks kinds) } ∷ blank_ones input kinds (scheme + 1) list

-- the same, where the input is not reached
abbrev pub blank_input : List ℕ → ℕ → List Domain → List (List Bool) → List Instance
blank_input reached input kinds list = if has reached input then [] else blank_ones input kinds 0 list

-- the same for each input from this one on
abbrev pub blank_instances_from : List ℕ → ℕ → List (List Column) → List (List (List Bool)) → List Instance
blank_instances_from reached input [] lists = []
blank_instances_from reached input (schema ∷ schemas) [] = []
blank_instances_from reached input (schema ∷ schemas) (list ∷ lists) =
    blank_input reached input (domains_of schema) list ++ blank_instances_from reached (input + 1) schemas lists

-- for each input that is not reached and each of its schemes the instance whose constants are 0 and empty texts
abbrev pub blank_instances_of : JoinSpec → List (List (List Bool)) → List ℕ → List Instance
blank_instances_of spec schemes reached = blank_instances_from reached 0 spec.inputs schemes
