-- Laws of rows that escape.
use Rattle.std.specs.Prelude.{ℕ, ◌<◌, ◌≡◌, pos, Bool, true, List, [], length, slice_index_or}
use Rattle.pj_value.specs.declared.values.Value.{Value}
use Rattle.pj_value.specs.declared.values.Value.TheVariants.{Int, Text}
use Rattle.pj_value.specs.Lists.{In, has}
use Rattle.pj_shape.specs.declared.columns.Column.{Column}
use Rattle.pj_shape.specs.declared.columns.Instance.{Instance}
use Rattle.pj_shape.specs.declared.joins.JoinSpec.{JoinSpec}
use Rattle.pj_shape.specs.Columns.{domains_of}
use Rattle.pj_shape.specs.Sound.{IsSoundSpec, FitSchemes}
use Rattle.pj_pattern.specs.Fitting.{row_fits}
use Rattle.pj_shape.specs.Sets.{IsClosed}
use Rattle.pj_cert.specs.Escaping.{Escapes, escape_rows}
use Rattle.pj_cert.specs.Fresh.{free_number, free_text}
use Rattle.pj_cert.specs.Instances.{AreInstances}

-- the columns of an input
abbrev pub schema_of : JoinSpec → ℕ → List Column
schema_of spec input = slice_index_or spec.inputs input []

-- the inputs that are reached are closed and have this input, whose row it is
pub record IsCut (spec : JoinSpec) (schemes : List (List (List Bool))) (input : ℕ) (reached : List ℕ) (row : List Value) : Type 0 where
  pub sound : IsSoundSpec spec
  pub fitting : FitSchemes spec.inputs schemes
  pub closed : IsClosed spec schemes (has reached)
  pub inside : has reached input ≡ true
  pub is_input : input < length spec.inputs
  pub row_fits_it : row_fits (domains_of (schema_of spec input)) row ≡ true

-- whatever instances are listed, there are rows that escape
abbrev pub EscapesAll : Type 0
EscapesAll =
    (spec : JoinSpec) (schemes : List (List (List Bool))) (input : ℕ) (reached : List ℕ) (row : List Value) (listed : List Instance)
    → IsCut spec schemes input reached row → AreInstances spec schemes listed
    → Escapes spec schemes input reached row listed (escape_rows spec input reached row listed)

-- the free number is none of the values, and each number below it is one of them
abbrev pub FindsLeastNumber : Type 0
FindsLeastNumber =
    (values : List Value) → (¬ In (Int (pos (free_number values))) values) × ((n : ℕ) → n < free_number values → In (Int (pos n)) values)

-- the free text is none of the values
abbrev pub FindsText : Type 0
FindsText = (values : List Value) → ¬ In (Text (free_text values)) values
