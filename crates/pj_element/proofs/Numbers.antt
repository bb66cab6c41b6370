-- Digits after a number that is too large.
use Rattle.std.proofs.Common.{◌≡◌, ℕ, zero, suc, ◌+◌, ◌-◌, ◌*◌, ◌^◌, ◌<◌, ◌≤◌, subst, true, false, List, [], ◌∷◌, None, refl, arith, ap, ◌∙◌}
use Rattle.std.proofs.lemmas.Bool.Decides.{nat_tests}
use Rattle.std.proofs.Math.Nat.{pow-suc}
use Rattle.std.specs.Prelude.{option_and_then}
use Rattle.std.proofs.Common.{length, drop, get_or}
use Rattle.std.proofs.lemmas.List.{at_drop_more}
use Rattle.pj_element.specs.Spelled.{number_of, number_from, at_most, is_digit}

pub stays_too_large : (limit n : ℕ) (bs : List ℕ) → limit < n → option_and_then (at_most limit) (number_from n bs) ≡ None
stays_too_large limit n [] large = grind (arith, nat_tests)
stays_too_large limit n (b ∷ bs) large =
    elim (is_digit b) as (λ t. is_digit b ≡ t → option_and_then (at_most limit) (number_from n (b ∷ bs)) ≡ None) [
      | true ↦ λ e. rw e (stays_too_large limit (10 * n + (b - 48)) bs (omega arith))
      | false ↦ λ e. rw e refl
    ] refl

-- one more digit makes it too large
pub too_large : (digits : List ℕ) (i limit number : ℕ) → i < length digits → number_of digits ≡ number_from number (drop i digits) → is_digit (get_or digits i 0) ≡ true → limit < number * 10 + (get_or digits i 0 - 48) → option_and_then (at_most limit) (number_of digits) ≡ None
too_large digits i limit number lt before e large =
    ap (option_and_then (at_most limit)) (before ∙ (at_drop_more (number_from number) digits i 0 lt ∙ rw e refl))
    ∙ stays_too_large limit (10 * number + (get_or digits i 0 - 48)) (drop (i + 1) digits) (omega arith)

-- ---- few digits

ten_power : (i k : ℕ) → 10 ^ i ≤ 10 ^ (i + k)
ten_power i zero = subst (λ (n : ℕ). 10 ^ i ≤ 10 ^ n) {x = i} {y = i + zero} (omega arith) (omega arith)
ten_power i (suc k) =
    let next : i + suc k ≡ suc (i + k) = omega arith in
    rw next (omega (arith, ten_power i k, pow-suc 10 (i + k)))

-- a number of at most 18 digits
pub few_fit : (i n : ℕ) → n < 10 ^ i → i < 19 → n < 10 ^ 18
few_fit i n lt few =
    let more : 10 ^ i ≤ 10 ^ 18 = subst (λ (k : ℕ). 10 ^ i ≤ 10 ^ k) {x = i + (18 - i)} {y = 18} (omega arith) (ten_power i (18 - i)) in
    omega (arith, more, lt)
