-- Tickets in order.
use Rattle.std.proofs.Common.{ℕ, suc, ◌+◌, ◌-◌, ◌<◌, Bool, true, false, cond, List, [], ◌∷◌, ◌++◌, ◌≡◌, filter, length, get_or, refl, sym, ap, ap₂, ◌∙◌, subst, inl, inr, eqb, arith, Contains, nat_cmp, IsPermutation, IsSorted}
use Rattle.std.specs.List.{dedup}
use Rattle.std.specs.List.Retain.{DiffersFromLast, IsFiltered}
use Rattle.std.proofs.lemmas.List.Filters.{dedup_is}
use Rattle.std.proofs.lemmas.List.Kept.{AllPairs-from_increasing, Contains-dedup_nat}
use Rattle.std.proofs.lemmas.List.Sorted.{Contains-permutation}
use Rattle.std.proofs.lemmas.Map.Keys.{IsStrictlyIncreasing-dedup}
use Rattle.pj_value.proofs.Members.{In-append_cases, In-filter, in-place}
use Rattle.pj_state.specs.Rising.{AllAbove, IsRising, itself}
use Rattle.pj_events.specs.Join.{In}

-- ---- lists that rise

pub above-in : {A : Type 0} (number : A → ℕ) (n : ℕ) (xs : List A) (x : A) → AllAbove number n xs → In x xs → n < number x
above-in number n [] x a h = absurd h
above-in number n (y ∷ ys) x a (inl e) = subst (λ z. n < number z) e a.0
above-in number n (y ∷ ys) x a (inr h) = above-in number n ys x a.1 h

above-from : {A : Type 0} (number : A → ℕ) (n : ℕ) (xs : List A) → ((x : A) → In x xs → n < number x) → AllAbove number n xs
above-from number n [] f = tt
above-from number n (x ∷ xs) f = (f x (inl refl), above-from number n xs (λ y h. f y (inr h)))

pub rising-append : {A : Type 0} (number : A → ℕ) (xs ys : List A) → IsRising number xs → IsRising number ys → ((x y : A) → In x xs → In y ys → number x < number y) → IsRising number (xs ++ ys)
rising-append number [] ys r s f = s
rising-append {A} number (x ∷ xs) ys r s f = (above-from number (number x) (xs ++ ys) later, rising-append number xs ys r.1 s (λ y z h k. f y z (inr h) k))
  where
    later : (y : A) → In y (xs ++ ys) → number x < number y
    later y h = elim (In-append_cases y xs ys h) [ inl a ↦ above-in number (number x) xs y r.0 a | inr b ↦ f x y (inl refl) b ]

pub rising-filter : {A : Type 0} (number : A → ℕ) (p : A → Bool) (xs : List A) → IsRising number xs → IsRising number (filter p xs)
rising-filter number p [] r = tt
rising-filter {A} number p (x ∷ xs) r = go (p x) (rising-filter number p xs r.1)
  where
    go : (b : Bool) → IsRising number (filter p xs) → IsRising number (cond b (x ∷ filter p xs) (filter p xs))
    go true ih = (above-from number (number x) (filter p xs) (λ y h. above-in number (number x) xs y r.0 (In-filter p y xs h).0), ih)
    go false ih = ih

-- lists that rise and have the same items are the same
pub rising-same : {A : Type 0} (number : A → ℕ) (xs ys : List A) → IsRising number xs → IsRising number ys → ((x : A) → In x xs → In x ys) → ((x : A) → In x ys → In x xs) → xs ≡ ys
rising-same number [] [] r s f g = refl
rising-same number [] (y ∷ ys) r s f g = absurd (g y (inl refl))
rising-same number (x ∷ xs) [] r s f g = absurd (f x (inl refl))
rising-same {A} number (x ∷ xs) (y ∷ ys) r s f g = ap₂ (λ (z : A) zs. z ∷ zs) same (rising-same number xs ys r.1 s.1 fore back)
  where
    least : In x (y ∷ ys) → In y (x ∷ xs) → x ≡ y
    least (inl e) h = sym e
    least (inr h) (inl e) = e
    least (inr h) (inr k) = let a = above-in number (number y) ys x s.0 h in let b = above-in number (number x) xs y r.0 k in absurd (omega (arith, a, b))

    same : x ≡ y
    same = least (f x (inl refl)) (g y (inl refl))

    fore : (z : A) → In z xs → In z ys
    fore z h = go (f z (inr h))
      where
        go : In z (y ∷ ys) → In z ys
        go (inl e) = let a : number x < number z = above-in number (number x) xs z r.0 h in let q : number x ≡ number z = ap number (same ∙ e) in absurd (omega (arith, a, q))
        go (inr k) = k

    back : (z : A) → In z ys → In z xs
    back z h = go (g z (inr h))
      where
        go : In z (x ∷ xs) → In z xs
        go (inl e) = let a : number y < number z = above-in number (number y) ys z s.0 h in let q : number y ≡ number z = ap number (sym same ∙ e) in absurd (omega (arith, a, q))
        go (inr k) = k

-- ---- tickets in order

pairs-rise : (xs : List ℕ) → ((i j d : ℕ) → i < j → j < length xs → get_or xs i d < get_or xs j d) → IsRising itself xs
pairs-rise [] f = tt
pairs-rise (x ∷ xs) f = (above xs (λ k lt. f 0 (suc k) x (omega arith) (omega (arith, lt))), pairs-rise xs (λ i j d l m. f (suc i) (suc j) d (omega (arith, l)) (omega (arith, m))))
  where
    above : (ys : List ℕ) → ((k : ℕ) → k < length ys → x < get_or ys k x) → AllAbove itself x ys
    above [] g = tt
    above (y ∷ ys) g = (g 0 (omega arith), above ys (λ k lt. g (suc k) (omega (arith, lt))))

pub in_order_rises : (E : ℕ → ℕ → Bool) (xs ys : List ℕ) → E ≡ eqb → IsSorted nat_cmp xs → IsFiltered (DiffersFromLast E) [] xs ys → IsRising itself ys
in_order_rises E xs ys e sorted kept =
    subst (λ (ns : List ℕ). IsRising itself ns) (sym (dedup_is E xs ys kept ∙ ap (λ f. dedup f xs) e)) (pairs-rise (dedup eqb xs) (AllPairs-from_increasing (dedup eqb xs) (IsStrictlyIncreasing-dedup xs sorted)))

in-contains : (xs : List ℕ) (n : ℕ) → In n xs → Contains xs n
in-contains [] n h = absurd h
in-contains (x ∷ xs) n (inl e) = (0, omega arith, e)
in-contains (x ∷ xs) n (inr h) = let c = in-contains xs n h in (suc c.0, (let l = c.1 in omega (arith, l)), c.2)

contains-in : (xs : List ℕ) (n : ℕ) → Contains xs n → In n xs
contains-in xs n c = subst (λ (m : ℕ). In m xs) c.2 (in-place xs n c.0 c.1)

pub in_order_all : (E : ℕ → ℕ → Bool) (ws xs ys : List ℕ) → E ≡ eqb → IsPermutation ws xs → IsFiltered (DiffersFromLast E) [] xs ys → (n : ℕ) → In n ws → In n ys
in_order_all E ws xs ys e moved kept n h =
    subst (λ (ns : List ℕ). In n ns) (sym (dedup_is E xs ys kept ∙ ap (λ f. dedup f xs) e))
    (contains-in (dedup eqb xs) n (Contains-dedup_nat xs n (Contains-permutation ws xs n moved (in-contains ws n h))))
