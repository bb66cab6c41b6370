-- Numbers in a row, from one on.
use Rattle.std.proofs.Common.{◌≡◌, ◌<◌, ◌+◌, ℕ, zero, suc, List, [], ◌∷◌, ◌++◌, length, map, get_or, refl, ap, ap₂, ◌∙◌, arith}
use Rattle.pj_events.specs.Join.{upto_from}

pub length-upto : (base n : ℕ) → length (upto_from base n) ≡ n
length-upto base zero = refl
length-upto base (suc n) = ap suc (length-upto (base + 1) n)

pub upto-push : (base n : ℕ) → upto_from base (suc n) ≡ upto_from base n ++ (base + n) ∷ []
upto-push base zero = ap (λ k. k ∷ []) (omega arith)
upto-push base (suc n) = ap (λ ks. base ∷ ks) (upto-push (base + 1) n ∙ ap (λ k. upto_from (base + 1) n ++ k ∷ []) (omega arith))

pub get_or-upto : {A : Type 0} (f : ℕ → A) (base n k : ℕ) (d : A) → k < n → get_or (map f (upto_from base n)) k d ≡ f (base + k)
get_or-upto f base zero k d lt = absurd (omega (arith, lt))
get_or-upto f base (suc n) zero d lt = ap f (omega arith)
get_or-upto f base (suc n) (suc k) d lt = get_or-upto f (base + 1) n k d (omega (arith, lt)) ∙ ap f (omega arith)

pub map-upto : {A : Type 0} (f g : ℕ → A) (base n : ℕ) → ((k : ℕ) → k < base + n → f k ≡ g k) → map f (upto_from base n) ≡ map g (upto_from base n)
map-upto f g base zero e = refl
map-upto {A} f g base (suc n) e = ap₂ (λ (x : A) (xs : List A). x ∷ xs) (e base (omega arith)) (map-upto f g (base + 1) n (λ k lt. e k (omega (arith, lt))))
