-- Prints of constants, by which punctuations with constants are found.
use Rattle.std.specs.Prelude.{ℕ, zero, suc, Bool, true, false, List, [], ◌∷◌, Option, Some, None, length, map, nat_eq, if◌then◌else◌}
use Rattle.pj_value.specs.declared.values.Value.{Value}
use Rattle.pj_hash.specs.Hashes.{with_value}
use Rattle.pj_pattern.specs.Patterns.{Pattern, constant_in}

-- one cell more, where it is marked and has a value
abbrev pub with_cell : ℕ → Bool → Option Value → ℕ
with_cell hash_value false cell = hash_value
with_cell hash_value true None = hash_value
with_cell hash_value true (Some v) = with_value hash_value v

abbrev pub hash_from : ℕ → List Bool → List (Option Value) → ℕ
hash_from hash_value [] cells = hash_value
hash_from hash_value (mark ∷ marks) [] = hash_value
hash_from hash_value (mark ∷ marks) (cell ∷ cells) = hash_from (with_cell hash_value mark cell) marks cells

-- a number of 64 bits: cells with the same values in the marked columns have the same
abbrev pub hash_of : List Bool → List (Option Value) → ℕ
hash_of marks cells = if nat_eq (length marks) (length cells) then hash_from 0 marks cells else 0

-- the value of the cell of a column, where that is there and has one
abbrev pub cell_at : List (Option Value) → ℕ → Option Value
cell_at [] column = None
cell_at (cell ∷ cells) zero = cell
cell_at (cell ∷ cells) (suc column) = cell_at cells column

-- the cells of a row
abbrev pub row_cells : List Value → List (Option Value)
row_cells row = map Some row

-- the constants of a punctuation, each in its column
abbrev pub constants_of : List Pattern → List (Option Value)
constants_of ps = map constant_in ps
