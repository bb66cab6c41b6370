-- Lists that are merged in order of numbers.
use Rattle.std.proofs.Common.{ℕ, zero, suc, ◌+◌, ◌<◌, ◌≤◌, Bool, true, false, cond, not, List, [], ◌∷◌, ◌≡◌, map, filter, refl, sym, ap, ◌∙◌, subst, inl, inr, eqb, ltb, arith}
use Rattle.std.proofs.lemmas.Bool.{eq-eqb, eqb-true, false≢true, le-ltb, lt-ltb, ltb-false, ltb-true}
use Rattle.pj_value.proofs.Members.{In-filter, filter-all}
use Rattle.pj_events.specs.Join.{In, upto_from}
use Rattle.pj_join.specs.Insides.{Rise}
use Rattle.pj_join.specs.Sides.{merged, put, put_all}

module _ {A : Type 0} (number input : A → ℕ) where
  -- those of an input, and those from an input on
  abbrev of : ℕ → A → Bool
  of k x = eqb (input x) k

  abbrev from : ℕ → A → Bool
  from k x = not (ltb (input x) k)

  above-first : (n : ℕ) (xs : List A) (end : ℕ) → Rise (n + 1) (map number xs) end → (x : A) → In x xs → n < number x
  above-first n [] end r x h = absurd h
  above-first n (y ∷ ys) end r x (inl e) = subst (λ (z : A). n < number z) e (omega (arith, r.0))
  above-first n (y ∷ ys) end r x (inr h) = let lt = above-first (number y) ys end r.1 x h in omega (arith, r.0, lt)

  put-front : (x : A) (ys : List A) → ((y : A) → In y ys → number x < number y) → put number x ys ≡ x ∷ ys
  put-front x [] lt = refl
  put-front x (y ∷ ys) lt = ap (λ b. cond b (y ∷ put number x ys) (x ∷ y ∷ ys)) (le-ltb (number y) (number x) (let l = lt y (inl refl) in omega (arith, l)))

  put-behind : (x y : A) (ys : List A) → number x < number y → put number y (x ∷ ys) ≡ x ∷ put number y ys
  put-behind x y ys lt = ap (λ b. cond b (x ∷ put number y ys) (y ∷ x ∷ ys)) (lt-ltb (number x) (number y) lt)

  all-behind : (x : A) (zs ys : List A) → ((z : A) → In z zs → number x < number z) → put_all number zs (x ∷ ys) ≡ x ∷ put_all number zs ys
  all-behind x [] ys lt = refl
  all-behind x (z ∷ zs) ys lt = ap (put number z) (all-behind x zs ys (λ y h. lt y (inr h))) ∙ put-behind x z (put_all number zs ys) (lt z (inl refl))

  merge-step : (k : ℕ) (xs : List A) (low end : ℕ) → Rise low (map number xs) end → put_all number (filter (of k) xs) (filter (from (k + 1)) xs) ≡ filter (from k) xs
  merge-step k [] low end r = refl
  merge-step k (x ∷ xs) low end r = go (eqb (input x) k) refl (ltb (input x) k) refl (merge-step k xs (number x + 1) end r.1)
    where
      later : (y : A) → In y xs → number x < number y
      later y h = above-first (number x) xs end r.1 y h

      next : (d : Bool) → ltb (input x) (k + 1) ≡ d → (b : Bool) → filter (from (k + 1)) (x ∷ xs) ≡ cond (not d) (x ∷ filter (from (k + 1)) xs) (filter (from (k + 1)) xs)
      next d e b = ap (λ c. cond (not c) (x ∷ filter (from (k + 1)) xs) (filter (from (k + 1)) xs)) e

      go : (b : Bool) → eqb (input x) k ≡ b → (c : Bool) → ltb (input x) k ≡ c → put_all number (filter (of k) xs) (filter (from (k + 1)) xs) ≡ filter (from k) xs
          → put_all number (cond b (x ∷ filter (of k) xs) (filter (of k) xs)) (filter (from (k + 1)) (x ∷ xs)) ≡ cond (not c) (x ∷ filter (from k) xs) (filter (from k) xs)
      go true e true f ih = absurd (let same = eqb-true (input x) k e in let lt = ltb-true (input x) k f in omega (arith, same, lt))
      go true e false f ih =
          ap (put_all number (x ∷ filter (of k) xs)) (next true (lt-ltb (input x) (k + 1) (let same = eqb-true (input x) k e in omega (arith, same))) true)
          ∙ (ap (put number x) ih ∙ put-front x (filter (from k) xs) (λ y h. later y (In-filter (from k) y xs h).0))
      go false e true f ih =
          ap (put_all number (filter (of k) xs)) (next true (lt-ltb (input x) (k + 1) (let lt = ltb-true (input x) k f in omega (arith, lt))) true) ∙ ih
      go false e false f ih =
          ap (put_all number (filter (of k) xs)) (next false (le-ltb (input x) (k + 1) above) true)
          ∙ (all-behind x (filter (of k) xs) (filter (from (k + 1)) xs) (λ z h. later z (In-filter (of k) z xs h).0) ∙ ap (λ (ys : List A). x ∷ ys) ih)
        where
          above : k + 1 ≤ input x
          above = elsewhere (input x) k e (ltb-false (input x) k f)
            where
              elsewhere : (m n : ℕ) → eqb m n ≡ false → n ≤ m → n + 1 ≤ m
              elsewhere m n g le = apart (λ q. false≢true (sym g ∙ eq-eqb m n q)) le
                where
                  apart : (m ≡ n → ⊥) → n ≤ m → n + 1 ≤ m
                  apart ne l = omega (arith, ne, l)

  none-from : (k : ℕ) (xs : List A) → ((x : A) → In x xs → input x < k) → filter (from k) xs ≡ []
  none-from k [] lt = refl
  none-from k (x ∷ xs) lt =
      ap (λ b. cond (not b) (x ∷ filter (from k) xs) (filter (from k) xs)) (lt-ltb (input x) k (lt x (inl refl))) ∙ none-from k xs (λ y h. lt y (inr h))

  sides-merged : (n k : ℕ) (xs : List A) (low end : ℕ) → Rise low (map number xs) end → ((x : A) → In x xs → input x < k + n)
      → merged number (map (λ j. filter (λ x. eqb (input x) j) xs) (upto_from k n)) ≡ filter (from k) xs
  sides-merged zero k xs low end r lt = sym (none-from k xs (λ x h. let l = lt x h in omega (arith, l)))
  sides-merged (suc n) k xs low end r lt =
      ap (put_all number (filter (of k) xs)) (sides-merged n (k + 1) xs low end r (λ x h. let l = lt x h in omega (arith, l))) ∙ merge-step k xs low end r

  -- the items of all inputs, in order of numbers, are the list that they were taken of
  pub merged-is : (n : ℕ) (xs : List A) (end : ℕ) → Rise 0 (map number xs) end → ((x : A) → In x xs → input x < n)
      → merged number (map (λ j. filter (λ x. eqb (input x) j) xs) (upto_from 0 n)) ≡ xs
  merged-is n xs end r lt =
      sides-merged n 0 xs 0 end r (λ x h. let l = lt x h in omega (arith, l)) ∙ filter-all (from 0) xs (λ x h. ap not (le-ltb (input x) 0 (omega arith)))
