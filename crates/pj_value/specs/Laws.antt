-- Laws of the order, the equality and the spelling of values, and of bags of rows.
use Rattle.std.specs.Prelude.{◌≡◌, ◌≢◌, ◌≤◌, ◌↔◌, ℕ, IsTrue, All, List}
use Rattle.std.specs.declared.cmp.Ordering.TheVariants.{Equal}
use Rattle.pj_value.specs.declared.values.Value.{Value}
use Rattle.pj_value.specs.Bags.{SameBag, SubBag, times}
use Rattle.pj_value.specs.Values.{row_eq, value_cmp, value_eq}
use Rattle.pj_value.specs.Texts.{value_spelling}

-- the order calls two values equal exactly where they are one value
abbrev pub EqualExactlyWhereSame : Type 0
EqualExactlyWhereSame = (a b : Value) → (value_cmp a b ≡ Equal) ↔ (a ≡ b)

-- the test for equality is true exactly where two values are one value
abbrev pub TestsEquality : Type 0
TestsEquality = (a b : Value) → IsTrue (value_eq a b) ↔ (a ≡ b)

-- the same of rows
abbrev pub TestsRowEquality : Type 0
TestsRowEquality = (row other : List Value) → IsTrue (row_eq row other) ↔ (row ≡ other)

-- lists of rows are equal as bags exactly where each row occurs equally often in both
abbrev pub SameBagsCountRows : Type 0
SameBagsCountRows = (xs ys : List (List Value)) → SameBag xs ys ↔ ((row : List Value) → times row xs ≡ times row ys)

-- one is part of another exactly where no row occurs more often in it
abbrev pub SubBagsCountRows : Type 0
SubBagsCountRows = (xs ys : List (List Value)) → SubBag xs ys ↔ ((row : List Value) → times row xs ≤ times row ys)

-- no control byte: neither below 32, as line feeds and tabs are, nor 127
abbrev pub IsPrintable : ℕ → Type 0
IsPrintable b = (32 ≤ b) × (b ≢ 127)

-- no spelling has a control byte, whatever bytes a text has
abbrev pub SpellsPrintably : Type 0
SpellsPrintably = (v : Value) → All IsPrintable (value_spelling v)
