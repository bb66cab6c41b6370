-- A number and a text that are none of some values.
use Rattle.std.specs.Prelude.{ℕ, zero, suc, ◌+◌, max, Bool, true, pos, negsuc, if◌then◌else◌, List, [], ◌∷◌, length, replicate, slice_set}
use Rattle.std.specs.List.{list_any}
use Rattle.pj_value.specs.declared.values.Value.{Value}
use Rattle.pj_value.specs.declared.values.Value.TheVariants.{Int, Text}
use Rattle.pj_value.specs.Values.{value_eq}

-- whether the number is one of these values
abbrev pub has_number : List Value → ℕ → Bool
has_number values n = list_any (value_eq (Int (pos n))) values

-- the first of so many numbers from this one on that is none of these values, or the number behind them
abbrev pub free_from : List Value → ℕ → ℕ → ℕ
free_from values n zero = n
free_from values n (suc more) = if has_number values n then free_from values (n + 1) more else n

-- the least number from 0 on that is none of these values: there are no more numbers before it than values
abbrev pub free_number : List Value → ℕ
free_number values = free_from values 0 (length values)

-- how many bytes a text has
abbrev pub text_length : Value → ℕ
text_length (Int n) = 0
text_length (Text bytes) = length bytes

-- how many bytes the longest text has, 0 where there is none
abbrev pub longest : List Value → ℕ
longest [] = 0
longest (v ∷ values) = max (text_length v) (longest values)

-- as many `a` as one more than the longest text has bytes
abbrev pub free_text : List Value → List ℕ
free_text values = replicate (longest values + 1) 97

-- ---- a table that tells which numbers are taken

-- with the value's place marked, where it is a number that has one
abbrev pub with_mark : List Bool → Value → List Bool
with_mark taken (Int (pos n)) = slice_set taken n true
with_mark taken (Int (negsuc n)) = taken
with_mark taken (Text bytes) = taken

-- the same of each of these values
abbrev pub with_marks : List Bool → List Value → List Bool
with_marks taken [] = taken
with_marks taken (v ∷ values) = with_marks (with_mark taken v) values

-- the number of the first place that is not marked, counted from this number, or of the place behind them
abbrev pub first_free : ℕ → List Bool → ℕ
first_free n [] = n
first_free n (mark ∷ marks) = if mark then first_free (n + 1) marks else n
