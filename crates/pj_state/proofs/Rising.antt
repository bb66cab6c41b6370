-- Lists whose items have numbers that rise.
use Rattle.std.proofs.Common.{◌≡◌, ℕ, zero, suc, ◌+◌, ◌<◌, ◌≤◌, Bool, true, false, not, cond, List, [], ◌∷◌, ◌++◌, Option, Some, None, length, filter, get_or, eqb, refl, ap, sym, ◌∙◌, arith}
use Rattle.std.specs.List.{remove}
use Rattle.std.proofs.lemmas.Bool.{eqb-true, eq-eqb, ne_eqb}
use Rattle.pj_state.specs.Rising.{AllAbove, AllBelow, IsRising, SplitsAt, first_with, without}

module _ {A : Type 0} (number : A → ℕ) where
  pub above-weaker : (m n : ℕ) (xs : List A) → m ≤ n → AllAbove number n xs → AllAbove number m xs
  above-weaker m n [] le h = tt
  above-weaker m n (x ∷ xs) le h = (omega (arith, le, h.0), above-weaker m n xs le h.1)

  pub above-at : (n : ℕ) (xs : List A) (k : ℕ) (d : A) → AllAbove number n xs → k < length xs → n < number (get_or xs k d)
  above-at n [] k d h lt = absurd (omega (arith, lt))
  above-at n (x ∷ xs) zero d h lt = h.0
  above-at n (x ∷ xs) (suc k) d h lt = above-at n xs k d h.1 (omega (arith, lt))

  pub above-front : (n : ℕ) (xs ys : List A) → AllAbove number n (xs ++ ys) → AllAbove number n xs
  above-front n [] ys h = tt
  above-front n (x ∷ xs) ys h = (h.0, above-front n xs ys h.1)

  pub above-behind : (n : ℕ) (xs ys : List A) → AllAbove number n (xs ++ ys) → AllAbove number n ys
  above-behind n [] ys h = h
  above-behind n (x ∷ xs) ys h = above-behind n xs ys h.1

  pub above-both : (n : ℕ) (xs ys : List A) → AllAbove number n xs → AllAbove number n ys → AllAbove number n (xs ++ ys)
  above-both n [] ys h k = k
  above-both n (x ∷ xs) ys h k = (h.0, above-both n xs ys h.1 k)

  pub rising-front : (xs ys : List A) → IsRising number (xs ++ ys) → IsRising number xs
  rising-front [] ys h = tt
  rising-front (x ∷ xs) ys h = (above-front (number x) xs ys h.0, rising-front xs ys h.1)

  pub rising-behind : (xs ys : List A) → IsRising number (xs ++ ys) → IsRising number ys
  rising-behind [] ys h = h
  rising-behind (x ∷ xs) ys h = rising-behind xs ys h.1

  pub rising-push : (xs : List A) (x : A) → IsRising number xs → AllBelow number (number x) xs → IsRising number (xs ++ x ∷ [])
  rising-push [] x h k = (tt, tt)
  rising-push (y ∷ ys) x h k = (above-both (number y) ys (x ∷ []) h.0 (k.0, tt), rising-push ys x h.1 k.1)

  -- ---- without a number

  pub without-above : (n : ℕ) (xs : List A) → AllAbove number n xs → without number n xs ≡ xs
  without-above n [] h = refl
  without-above n (x ∷ xs) h =
      ap (λ b. cond (not b) (x ∷ without number n xs) (without number n xs)) (ne_eqb (number x) n (λ e. omega (arith, e, h.0)))
      ∙ ap (λ (ys : List A). x ∷ ys) (without-above n xs h.1)

  pub without-below : (n : ℕ) (xs : List A) → AllBelow number n xs → without number n xs ≡ xs
  without-below n [] h = refl
  without-below n (x ∷ xs) h =
      ap (λ b. cond (not b) (x ∷ without number n xs) (without number n xs)) (ne_eqb (number x) n (λ e. omega (arith, e, h.0)))
      ∙ ap (λ (ys : List A). x ∷ ys) (without-below n xs h.1)

  pub without-append : (n : ℕ) (xs ys : List A) → without number n (xs ++ ys) ≡ without number n xs ++ without number n ys
  without-append n [] ys = refl
  without-append n (x ∷ xs) ys = go (not (eqb (number x) n)) (without-append n xs ys)
    where
      go : (b : Bool) → without number n (xs ++ ys) ≡ without number n xs ++ without number n ys
          → cond b (x ∷ without number n (xs ++ ys)) (without number n (xs ++ ys)) ≡ cond b (x ∷ without number n xs) (without number n xs) ++ without number n ys
      go true ih = ap (λ (zs : List A). x ∷ zs) ih
      go false ih = ih

  -- what was put at the end is taken out again
  pub without-push : (n : ℕ) (xs : List A) (x : A) → AllBelow number n xs → number x ≡ n → without number n (xs ++ x ∷ []) ≡ xs
  without-push n [] x h e = ap (λ b. cond (not b) (x ∷ []) []) (eq-eqb (number x) n e)
  without-push n (y ∷ ys) x h e =
      ap (λ b. cond (not b) (y ∷ without number n (ys ++ x ∷ [])) (without number n (ys ++ x ∷ []))) (ne_eqb (number y) n (λ q. omega (arith, q, h.0)))
      ∙ ap (λ (zs : List A). y ∷ zs) (without-push n ys x h.1 e)

  pub above-filter : (p : A → Bool) (n : ℕ) (xs : List A) → AllAbove number n xs → AllAbove number n (filter p xs)
  above-filter p n [] h = tt
  above-filter p n (x ∷ xs) h = go (p x) (above-filter p n xs h.1)
    where
      go : (b : Bool) → AllAbove number n (filter p xs) → AllAbove number n (cond b (x ∷ filter p xs) (filter p xs))
      go true ih = (h.0, ih)
      go false ih = ih

  pub rising-filter : (p : A → Bool) (xs : List A) → IsRising number xs → IsRising number (filter p xs)
  rising-filter p [] h = tt
  rising-filter p (x ∷ xs) h = go (p x) (rising-filter p xs h.1)
    where
      go : (b : Bool) → IsRising number (filter p xs) → IsRising number (cond b (x ∷ filter p xs) (filter p xs))
      go true ih = (above-filter p (number x) xs h.0, ih)
      go false ih = ih

  -- ---- the first with a number

  pub first-above : (n : ℕ) (xs : List A) → AllAbove number n xs → first_with number n xs ≡ None
  first-above n [] h = refl
  first-above n (x ∷ xs) h =
      ap (λ b. cond b (Some x) (first_with number n xs)) (ne_eqb (number x) n (λ e. omega (arith, e, h.0))) ∙ first-above n xs h.1

  pub first-behind : (n : ℕ) (xs ys : List A) → AllBelow number n xs → first_with number n (xs ++ ys) ≡ first_with number n ys
  first-behind n [] ys h = refl
  first-behind n (x ∷ xs) ys h =
      ap (λ b. cond b (Some x) (first_with number n (xs ++ ys))) (ne_eqb (number x) n (λ e. omega (arith, e, h.0))) ∙ first-behind n xs ys h.1

  pub first-front : (n : ℕ) (xs ys : List A) → AllAbove number n ys → first_with number n (xs ++ ys) ≡ first_with number n xs
  first-front n [] ys h = first-above n ys h
  first-front n (x ∷ xs) ys h = ap (λ (o : Option A). cond (eqb (number x) n) (Some x) o) (first-front n xs ys h)

  pub first-push : (n : ℕ) (xs : List A) (x : A) → AllBelow number n xs → number x ≡ n → first_with number n (xs ++ x ∷ []) ≡ Some x
  first-push n xs x h e = first-behind n xs (x ∷ []) h ∙ ap (λ b. cond b (Some x) None) (eq-eqb (number x) n e)

  -- what is found in a part is found in the whole
  pub first-earlier : (n : ℕ) (xs ys : List A) (p : A) → first_with number n xs ≡ Some p → first_with number n (xs ++ ys) ≡ Some p
  first-earlier n [] ys p h = absurd (cc)
  first-earlier n (x ∷ xs) ys p h = go (eqb (number x) n) (first-earlier n xs ys p) h
    where
      go : (b : Bool) → (first_with number n xs ≡ Some p → first_with number n (xs ++ ys) ≡ Some p) → cond b (Some x) (first_with number n xs) ≡ Some p → cond b (Some x) (first_with number n (xs ++ ys)) ≡ Some p
      go true ih q = q
      go false ih q = ih q

  pub first-later : (n : ℕ) (xs ys : List A) (p : A) → IsRising number (xs ++ ys) → first_with number n ys ≡ Some p → first_with number n (xs ++ ys) ≡ Some p
  first-later n [] ys p rising h = h
  first-later n (x ∷ xs) ys p rising h =
      ap (λ b. cond b (Some x) (first_with number n (xs ++ ys))) (ne_eqb (number x) n other) ∙ first-later n xs ys p rising.1 h
    where
      other : number x ≡ n → ⊥
      other e =
          let none : first_with number n ys ≡ None = first-above n ys (above-weaker n (number x) ys (omega (arith, e)) (above-behind (number x) xs ys rising.0)) in
          let clash : Some p ≡ None = sym h ∙ none in absurd (cc)

  pub first-number : (n : ℕ) (xs : List A) (x : A) → first_with number n xs ≡ Some x → number x ≡ n
  first-number n [] x h = absurd (cc)
  first-number n (y ∷ ys) x h = go (eqb (number y) n) refl (first-number n ys x) h
    where
      go : (b : Bool) → eqb (number y) n ≡ b → (first_with number n ys ≡ Some x → number x ≡ n) → cond b (Some y) (first_with number n ys) ≡ Some x → number x ≡ n
      go true e ih q = let same : y ≡ x = cc in ap number (sym same) ∙ eqb-true (number y) n e
      go false e ih q = ih q

  -- ---- at a place

  pub first-at : (n : ℕ) (xs : List A) (k : ℕ) (d : A) → IsRising number xs → k < length xs → number (get_or xs k d) ≡ n → first_with number n xs ≡ Some (get_or xs k d)
  first-at n [] k d h lt e = absurd (omega (arith, lt))
  first-at n (x ∷ xs) zero d h lt e = ap (λ b. cond b (Some x) (first_with number n xs)) (eq-eqb (number x) n e)
  first-at n (x ∷ xs) (suc k) d h lt e =
      let there : k < length xs = omega (arith, lt) in
      ap (λ b. cond b (Some x) (first_with number n xs)) (ne_eqb (number x) n (λ q. omega (arith, q, e, above-at (number x) xs k d h.0 there)))
      ∙ first-at n xs k d h.1 there e

  pub without-at : (n : ℕ) (xs : List A) (k : ℕ) (d : A) → IsRising number xs → k < length xs → number (get_or xs k d) ≡ n → without number n xs ≡ remove xs k
  without-at n [] k d h lt e = absurd (omega (arith, lt))
  without-at n (x ∷ xs) zero d h lt e =
      ap (λ b. cond (not b) (x ∷ without number n xs) (without number n xs)) (eq-eqb (number x) n e)
      ∙ without-above n xs (above-weaker n (number x) xs (omega (arith, e)) h.0)
  without-at n (x ∷ xs) (suc k) d h lt e =
      let there : k < length xs = omega (arith, lt) in
      ap (λ b. cond (not b) (x ∷ without number n xs) (without number n xs)) (ne_eqb (number x) n (λ q. omega (arith, q, e, above-at (number x) xs k d h.0 there)))
      ∙ ap (λ (ys : List A). x ∷ ys) (without-at n xs k d h.1 there e)

  pub without-missing : (n : ℕ) (xs : List A) → first_with number n xs ≡ None → without number n xs ≡ xs
  without-missing n [] h = refl
  without-missing n (x ∷ xs) h = go (eqb (number x) n) (without-missing n xs) h
    where
      go : (b : Bool) → (first_with number n xs ≡ None → without number n xs ≡ xs) → cond b (Some x) (first_with number n xs) ≡ None
          → cond (not b) (x ∷ without number n xs) (without number n xs) ≡ x ∷ xs
      go true ih q = absurd (cc)
      go false ih q = ap (λ (ys : List A). x ∷ ys) (ih q)

  pub length-without : (n : ℕ) (xs : List A) (x : A) → IsRising number xs → first_with number n xs ≡ Some x → length (without number n xs) + 1 ≡ length xs
  length-without n [] x h q = absurd (cc)
  length-without n (y ∷ ys) x h q = go (eqb (number y) n) refl (length-without n ys x h.1) q
    where
      go : (b : Bool) → eqb (number y) n ≡ b → (first_with number n ys ≡ Some x → length (without number n ys) + 1 ≡ length ys) → cond b (Some y) (first_with number n ys) ≡ Some x
          → length (cond (not b) (y ∷ without number n ys) (without number n ys)) + 1 ≡ length (y ∷ ys)
      go true e ih r = ap (λ (zs : List A). length zs + 1) (without-above n ys (above-weaker n (number y) ys (omega (arith, eqb-true (number y) n e)) h.0)) ∙ omega arith
      go false e ih r = omega (arith, ih r)

  -- where the item before the place has another number, no item has it
  pub first-missing : (n : ℕ) (xs : List A) (at : ℕ) → IsRising number xs → SplitsAt number n xs at
      → ((k : ℕ) (d : A) → k + 1 ≡ at → number (get_or xs k d) ≡ n → ⊥) → first_with number n xs ≡ None
  first-missing n [] at h s other = refl
  first-missing n (x ∷ xs) zero h s other =
      let here : n < number x = s.behind x (omega arith) in
      first-above n (x ∷ xs) (here, above-weaker n (number x) xs (omega (arith, here)) h.0)
  first-missing n (x ∷ xs) (suc k) h s other =
      ap (λ b. cond b (Some x) (first_with number n xs)) (ne_eqb (number x) n (less k s.within (s.before k x (omega arith)) (other k x (omega arith))))
      ∙ first-missing n xs k h.1 (rest s) (λ j d e. other (suc j) d (omega (arith, e)))
    where
      less : (j : ℕ) → suc j ≤ length (x ∷ xs) → number (get_or (x ∷ xs) j x) ≤ n → (number (get_or (x ∷ xs) j x) ≡ n → ⊥) → number x ≡ n → ⊥
      less zero w le ne e = ne e
      less (suc j) w le ne e = omega (arith, e, le, above-at (number x) xs j x h.0 (omega (arith, w)))

      rest : SplitsAt number n (x ∷ xs) (suc k) → SplitsAt number n xs k
      rest t = record {
        within = omega (arith, t.within);
        before = λ j d e. t.before (suc j) d (omega (arith, e));
        behind = λ d lt. t.behind d (omega (arith, lt));
      }
