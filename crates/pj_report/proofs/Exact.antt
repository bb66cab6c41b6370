-- Totals that are exact sums, and lists of rows that are equal as bags.
use Rattle.std.proofs.Common.{ℕ, suc, ◌+◌, ◌-◌, ◌*◌, ◌^◌, ◌≤◌, ◌≡◌, List, [], ◌∷◌, length, inl, inr, refl, ap, ◌∙◌, arith}
use Rattle.std.specs.Prelude.{ℤ, pos, negsuc, ◌+ℤ◌}
use Rattle.std.specs.Int.{saturate_signed, w64}
use Rattle.std.proofs.lemmas.Int.{ints}
use Rattle.pj_value.specs.declared.values.Value.{Value}
use Rattle.pj_value.specs.Bags.{SameBag, weigh}
use Rattle.pj_value.specs.Lists.{In}
use Rattle.pj_report.specs.Laws.{ExactSumsByBag, TotalsAreExact}
use Rattle.pj_report.specs.Sums.{HasSmallEnds, IsSmallNumber, exact_sum, last_number, sum_behind}

-- ---- totals

fits_64 : (n : ℕ) → n ≤ 2 ^ 62 → saturate_signed w64 (pos n) ≡ pos n
fits_64 n le = ap pos (omega (arith, le))

-- behind a small total
exact_behind : (n : ℕ) (rows : List (List Value)) → HasSmallEnds rows → n + 2 ^ 31 * length rows ≤ 2 ^ 62 → sum_behind (pos n) rows ≡ pos n +ℤ exact_sum rows
exact_behind n [] small le = omega (arith, ints)
exact_behind n (row ∷ rows) small le = go (last_number row) small.0 (λ m few. exact_behind m rows small.1 few)
  where
    go : (z : ℤ) → IsSmallNumber z → ((m : ℕ) → m + 2 ^ 31 * length rows ≤ 2 ^ 62 → sum_behind (pos m) rows ≡ pos m +ℤ exact_sum rows)
        → sum_behind (saturate_signed w64 (pos n +ℤ z)) rows ≡ pos n +ℤ (z +ℤ exact_sum rows)
    go (pos k) s ih =
        let all : (n + k) + 2 ^ 31 * length rows ≤ 2 ^ 62 = omega (arith, le, s) in
        let sum : pos (n + k) +ℤ exact_sum rows ≡ pos n +ℤ (pos k +ℤ exact_sum rows) = omega (arith, ints) in
        ap (λ (t : ℤ). sum_behind t rows) (fits_64 (n + k) (omega (arith, all))) ∙ (ih (n + k) all ∙ sum)
    go (negsuc k) s ih = absurd s

pub totals_exact : TotalsAreExact
totals_exact rows small few =
    let zero_more : pos 0 +ℤ exact_sum rows ≡ exact_sum rows = omega (arith, ints) in
    exact_behind 0 rows small (omega (arith, few)) ∙ zero_more

-- ---- sums of bags

-- how far a number is above 0, and how far below
abbrev above : ℤ → ℕ
above (pos n) = n
above (negsuc n) = 0

abbrev below : ℤ → ℕ
below (pos n) = 0
below (negsuc n) = suc n

parts_of : (z : ℤ) → z +ℤ pos (below z) ≡ pos (above z)
parts_of (pos n) = omega (arith, ints)
parts_of (negsuc n) = omega (arith, ints)

sum_parts : (rows : List (List Value)) → exact_sum rows +ℤ pos (weigh (λ row. below (last_number row)) rows) ≡ pos (weigh (λ row. above (last_number row)) rows)
sum_parts [] = omega (arith, ints)
sum_parts (row ∷ rows) =
    add (last_number row) (exact_sum rows) (below (last_number row)) (weigh (λ r. below (last_number r)) rows) (above (last_number row)) (weigh (λ r. above (last_number r)) rows) (parts_of (last_number row)) (sum_parts rows)
  where
    add : (x y : ℤ) (a b c d : ℕ) → x +ℤ pos a ≡ pos c → y +ℤ pos b ≡ pos d → (x +ℤ y) +ℤ pos (a + b) ≡ pos (c + d)
    add x y a b c d one other = omega (arith, ints, one, other)

pub exact_by_bag : ExactSumsByBag
exact_by_bag rows others same =
    equal (exact_sum rows) (exact_sum others) (weigh (λ row. below (last_number row)) rows) (weigh (λ row. above (last_number row)) rows) (weigh (λ row. below (last_number row)) others) (weigh (λ row. above (last_number row)) others)
    (same (λ row. below (last_number row))) (same (λ row. above (last_number row))) (sum_parts rows) (sum_parts others)
  where
    equal : (x y : ℤ) (a b c d : ℕ) → a ≡ c → b ≡ d → x +ℤ pos a ≡ pos b → y +ℤ pos c ≡ pos d → x ≡ y
    equal x y a b c d e f one other = omega (arith, ints, e, f, one, other)

-- ---- small numbers

-- nothing for a number from 0 to 2^31, and something for every other
abbrev pub excess : ℤ → ℕ
excess (pos n) = n - 2 ^ 31
excess (negsuc n) = 1

no_excess : (z : ℤ) → IsSmallNumber z → excess z ≡ 0
no_excess (pos n) small = omega (arith, small)
no_excess (negsuc n) small = absurd small

pub small_without : (z : ℤ) → excess z ≡ 0 → IsSmallNumber z
small_without (pos n) e = omega (arith, e)
small_without (negsuc n) e = absurd (omega (arith, e))

pub ends_where : (rows : List (List Value)) → ((row : List Value) → In row rows → IsSmallNumber (last_number row)) → HasSmallEnds rows
ends_where [] small = tt
ends_where (row ∷ rows) small = (small row (inl refl), ends_where rows (λ other h. small other (inr h)))

ends_weigh : (rows : List (List Value)) → HasSmallEnds rows → weigh (λ row. excess (last_number row)) rows ≡ 0
ends_weigh [] small = omega arith
ends_weigh (row ∷ rows) small = omega (arith, no_excess (last_number row) small.0, ends_weigh rows small.1)

ends_without : (rows : List (List Value)) → weigh (λ row. excess (last_number row)) rows ≡ 0 → HasSmallEnds rows
ends_without [] e = tt
ends_without (row ∷ rows) e = (small_without (last_number row) (omega (arith, e)), ends_without rows (omega (arith, e)))

-- whether the last column has small numbers alone depends on how often each row is there, and on nothing else
pub ends_by_bag : (rows others : List (List Value)) → SameBag rows others → HasSmallEnds rows → HasSmallEnds others
ends_by_bag rows others same small = ends_without others (omega (arith, same (λ row. excess (last_number row)), ends_weigh rows small))

rows_weigh : (rows : List (List Value)) → weigh (λ row. 1) rows ≡ length rows
rows_weigh [] = omega arith
rows_weigh (row ∷ rows) = omega (arith, rows_weigh rows)

-- so does the number of rows
pub rows_by_bag : (rows others : List (List Value)) → SameBag rows others → length rows ≡ length others
rows_by_bag rows others same = omega (arith, same (λ row. 1), rows_weigh rows, rows_weigh others)
