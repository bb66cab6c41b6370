-- Sums, least and greatest values, one value after another.
use Rattle.std.proofs.Common.{ℕ, suc, ◌+◌, ◌*◌, ◌^◌, ◌<◌, List, [], ◌∷◌, ◌++◌, ◌≡◌, length, drop, take, get_or, drop-cons, sym, ap, ap₂, ◌∙◌, arith, ℤ, pos, neg_ℤ, ◌+ℤ◌, ◌-ℤ◌, ◌≤ℤ◌}
use Rattle.std.proofs.lemmas.Int.{ints}
use Rattle.std.proofs.lemmas.List.{take_more}
use Rattle.pj_value.specs.Bags.{weigh}
use Rattle.pj_value.proofs.Bags.{weigh-append}
use Rattle.pj_value.specs.declared.values.Value.{Value}
use Rattle.pj_events.specs.Operators.{above_zero, below_zero, greater, greatest_from, least_from, lesser, sum_of}
use Rattle.pj_algebra.specs.Evaluating.{number_of}

-- ---- sums

-- the sum of the first so many values, and how far it may be from 0
pub record IsSum (values : List Value) (count : ℕ) (z : ℤ) : Type 0 where
  pub is : z ≡ sum_of (take count values)
  pub low : neg_ℤ (pos (count * 2 ^ 63)) ≤ℤ z
  pub high : z ≤ℤ pos (count * 2 ^ 63)

parts : (a b m n x y : ℕ) → x ≡ a + (m + 0) → y ≡ b + (n + 0) → pos x -ℤ pos y ≡ (pos a -ℤ pos b) +ℤ (pos m -ℤ pos n)
parts a b m n x y p q = omega (arith, ints)

sum_then : (vs : List Value) (v : Value) (z n : ℤ) → z ≡ sum_of vs → n ≡ number_of v → z +ℤ n ≡ sum_of (vs ++ v ∷ [])
sum_then vs v z n s e =
    ap₂ (λ (a b : ℤ). a +ℤ b) s e
    ∙ sym (parts (weigh above_zero vs) (weigh below_zero vs) (above_zero v) (below_zero v) (weigh above_zero (vs ++ v ∷ [])) (weigh below_zero (vs ++ v ∷ [])) (weigh-append above_zero vs (v ∷ [])) (weigh-append below_zero vs (v ∷ [])))

pub sum_next : (values : List Value) (i : ℕ) (v : Value) (z n new : ℤ) → IsSum values i z → i < length values → v ≡ get_or values i v → n ≡ number_of v → neg_ℤ (pos (2 ^ 63)) ≤ℤ n → n ≤ℤ pos (2 ^ 63) → new ≡ z +ℤ n
    → IsSum values (i + 1) new
sum_next values i v z n new s lt at is low high e = record {
  is = e ∙ (sum_then (take i values) v z n s.is is ∙ ap sum_of (ap (λ (w : Value). take i values ++ w ∷ []) at ∙ sym (take_more values i v lt)));
  low = omega (arith, ints, e, low, s.low);
  high = omega (arith, ints, e, high, s.high);
}

-- ---- least and greatest values

next_of : {A : Type 0} (xs : List A) (i : ℕ) (x : A) → i < length xs → x ≡ get_or xs i x → drop i xs ≡ x ∷ drop (i + 1) xs
next_of {A} xs i x lt at = let more : suc i ≡ i + 1 = omega arith in drop-cons xs i x lt ∙ ap₂ (λ (y : A) (m : ℕ). y ∷ drop m xs) (sym at) more

pub least_next : (values : List Value) (i : ℕ) (v least new whole : Value) → i < length values → v ≡ get_or values i v → new ≡ lesser least v → least_from least (drop i values) ≡ whole → least_from new (drop (i + 1) values) ≡ whole
least_next values i v least new whole lt at n h =
    ap (λ (w : Value). least_from w (drop (i + 1) values)) n ∙ (ap (least_from least) (sym (next_of values i v lt at)) ∙ h)

pub greatest_next : (values : List Value) (i : ℕ) (v greatest new whole : Value) → i < length values → v ≡ get_or values i v → new ≡ greater greatest v → greatest_from greatest (drop i values) ≡ whole
    → greatest_from new (drop (i + 1) values) ≡ whole
greatest_next values i v greatest new whole lt at n h =
    ap (λ (w : Value). greatest_from w (drop (i + 1) values)) n ∙ (ap (greatest_from greatest) (sym (next_of values i v lt at)) ∙ h)
