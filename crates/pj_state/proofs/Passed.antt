-- Lists whose first items are passed over.
use Rattle.std.proofs.Common.{◌≡◌, ℕ, zero, suc, ◌+◌, ◌-◌, ◌<◌, List, [], ◌∷◌, ◌++◌, length, drop, take, refl, ap, sym, ◌∙◌, arith}
use Rattle.std.specs.List.{remove}
use Rattle.std.proofs.lemmas.List.{drop_more, length-append}

module _ {A : Type 0} where
  pub drop-remove : (xs : List A) (start at i : ℕ) → i ≡ start + at → drop start (remove xs i) ≡ remove (drop start xs) at
  drop-remove xs zero at i e = let same : i ≡ at = omega (arith, e) in ap (remove xs) same
  drop-remove xs (suc start) at zero e = absurd (omega (arith, e))
  drop-remove [] (suc start) zero (suc i) e = refl
  drop-remove [] (suc start) (suc at) (suc i) e = refl
  drop-remove (x ∷ xs) (suc start) at (suc i) e = drop-remove xs start at i (omega (arith, e))

  pub drop-first : (xs : List A) (start : ℕ) (d : A) → start < length xs → drop (start + 1) xs ≡ remove (drop start xs) 0
  drop-first xs start d lt = sym (ap (λ (ys : List A). remove ys 0) (drop_more xs start d lt))

-- without the first item
pub remove-first : {A : Type 0} (xs : List A) → remove xs 0 ≡ drop 1 xs
remove-first [] = refl
remove-first (x ∷ xs) = refl

front-is : {A : Type 0} (front : List A) (x : A) → take (length (front ++ x ∷ []) - 1) (front ++ x ∷ []) ≡ front
front-is {A} front x = ap (λ n. take n (front ++ x ∷ [])) count ∙ go front
  where
    count : length (front ++ x ∷ []) - 1 ≡ length front
    count = omega (arith, length-append front (x ∷ []))

    go : (ys : List A) → take (length ys) (ys ++ x ∷ []) ≡ ys
    go [] = refl
    go (y ∷ ys) = ap (λ (zs : List A). y ∷ zs) (go ys)

-- no list with an item at its end is empty
not-empty : {A : Type 0} (front : List A) (x : A) → [] ≡ front ++ x ∷ [] → ⊥
not-empty [] x e = cc
not-empty (y ∷ ys) x e = cc

some-left : {A : Type 0} (front : List A) (x : A) (ys : List A) (m : ℕ) → drop m ys ≡ front ++ x ∷ [] → 0 < length ys
some-left front x [] zero q = absurd (not-empty front x q)
some-left front x [] (suc m) q = absurd (not-empty front x q)
some-left front x (y ∷ ys) m q = omega arith

-- without the last one
pub pop_last : {A : Type 0} (xs : List A) (start : ℕ) (front : List A) (x : A) → drop start xs ≡ front ++ x ∷ [] → drop start (take (length xs - 1) xs) ≡ front
pop_last [] zero front x e = absurd (not-empty front x e)
pop_last [] (suc k) front x e = absurd (not-empty front x e)
pop_last {A} (z ∷ zs) zero front x e = ap (λ (ys : List A). take (length ys - 1) ys) e ∙ front-is front x
pop_last {A} (z ∷ zs) (suc k) front x e = ap (λ n. drop (suc k) (take n (z ∷ zs))) (count zs (some-left front x zs k e)) ∙ pop_last zs k front x e
  where
    count : (ys : List A) → 0 < length ys → length (z ∷ ys) - 1 ≡ suc (length ys - 1)
    count ys lt = omega (arith, lt)
