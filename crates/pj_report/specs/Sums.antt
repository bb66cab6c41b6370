-- The sum of the last column of rows.
use Rattle.std.specs.Prelude.{◌-◌, ◌^◌, ◌≤◌, ◌+ℤ◌, ℤ, pos, negsuc, ⊤, List, [], ◌∷◌, length, Option, Some, None, slice_get}
use Rattle.std.specs.Int.{saturate_signed, w64}
use Rattle.pj_value.specs.declared.values.Value.{Value}
use Rattle.pj_value.specs.declared.values.Value.TheVariants.{Int, Text}
use Rattle.pj_pattern.specs.declared.element.Element.{Element}
use Rattle.pj_element.specs.Runs.{rows_of}

-- the number of a cell; 0 where it is a text, or there is none
abbrev pub number_in : Option Value → ℤ
number_in None = pos 0
number_in (Some (Int n)) = n
number_in (Some (Text bytes)) = pos 0

-- the number in the last column of a row
abbrev pub last_number : List Value → ℤ
last_number row = number_in (slice_get row (length row - 1))

-- a sum with one number more, which stops at the least and the greatest number of 64 bits
abbrev pub sum_with : ℤ → List Value → ℤ
sum_with total row = saturate_signed w64 (total +ℤ last_number row)

-- the same with those of these rows, one by one
abbrev pub sum_behind : ℤ → List (List Value) → ℤ
sum_behind total [] = total
sum_behind total (row ∷ rows) = sum_behind (sum_with total row) rows

-- the sum of the last column of the rows among elements
abbrev pub total_of : List Element → ℤ
total_of es = sum_behind (pos 0) (rows_of es)

-- ---- exact sums

-- the sum of the last column of rows, whatever its size
abbrev pub exact_sum : List (List Value) → ℤ
exact_sum [] = pos 0
exact_sum (row ∷ rows) = last_number row +ℤ exact_sum rows

-- a number from 0 to 2^31
abbrev pub IsSmallNumber : ℤ → Type 0
IsSmallNumber (pos n) = n ≤ 2 ^ 31
IsSmallNumber (negsuc n) = ⊥

-- the number in the last column of each of these rows is one
abbrev pub HasSmallEnds : List (List Value) → Type 0
HasSmallEnds [] = ⊤
HasSmallEnds (row ∷ rows) = IsSmallNumber (last_number row) × HasSmallEnds rows
