-- What kinds values have, and how they are ordered.
use Rattle.std.specs.Prelude.{Bool, true, false, ◌&&◌, List, [], ◌∷◌}
use Rattle.std.specs.Str.{bytes_eq}
use Rattle.std.specs.declared.cmp.Ordering.{Ordering}
use Rattle.std.specs.declared.cmp.Ordering.TheVariants.{Less, Greater}
use Rattle.std.specs.Ordering.{nat_cmp, int_cmp, int_eq}
use Rattle.std.specs.Cmp.Lexicographic.{slice_cmp}
use Rattle.pj_value.specs.declared.values.Kind.{Kind}
use Rattle.pj_value.specs.declared.values.Kind.TheVariants.{Int as KInt, Text as KText}
use Rattle.pj_value.specs.declared.values.Value.{Value}
use Rattle.pj_value.specs.declared.values.Value.TheVariants.{Int, Text}

-- whether a value is an integer or a text
abbrev pub kind_of : Value → Kind
kind_of (Int n) = KInt
kind_of (Text bytes) = KText

-- whether the value is of the kind
abbrev pub is_kind : Kind → Value → Bool
is_kind KInt (Int n) = true
is_kind KInt (Text bytes) = false
is_kind KText (Int n) = false
is_kind KText (Text bytes) = true

-- which values fit a column: those of its kind
abbrev pub Domain : Type 0
Domain = Kind

abbrev pub value_fits : Domain → Value → Bool
value_fits domain v = is_kind domain v

-- integers by size, texts bytewise with a proper prefix first, every integer before every text
abbrev pub value_cmp : Value → Value → Ordering
value_cmp (Int m) (Int n) = int_cmp m n
value_cmp (Int m) (Text y) = Less
value_cmp (Text x) (Int n) = Greater
value_cmp (Text x) (Text y) = slice_cmp nat_cmp x y

-- one kind and one content
abbrev pub value_eq : Value → Value → Bool
value_eq (Int m) (Int n) = int_eq m n
value_eq (Int m) (Text y) = false
value_eq (Text x) (Int n) = false
value_eq (Text x) (Text y) = bytes_eq x y

-- equal length and equal values
abbrev pub row_eq : List Value → List Value → Bool
row_eq [] [] = true
row_eq [] (w ∷ ws) = false
row_eq (v ∷ vs) [] = false
row_eq (v ∷ vs) (w ∷ ws) = value_eq v w && row_eq vs ws
