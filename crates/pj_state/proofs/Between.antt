-- Halving a list in which numbers rise.
use Rattle.std.proofs.Common.{◌≡◌, ℕ, ◌+◌, ◌-◌, ◌/◌, ◌<◌, ◌≤◌, List, None, Some, length, get_or, ap, sym, ◌∙◌, subst, arith}
use Rattle.std.specs.List.{remove}
use Rattle.std.proofs.lemmas.List.{get_or_default}
use Rattle.pj_state.specs.Rising.{IsRising, SplitsAt, first_with, without}
use Rattle.pj_state.proofs.Rising.{first-at, first-missing, without-at, without-missing}

module _ {A : Type 0} (number : A → ℕ) where
  -- the place that splits the list is from low to high
  pub record IsBetween (n : ℕ) (xs : List A) (low high : ℕ) : Type 0 where
    pub ordered : low ≤ high
    pub within : high ≤ length xs
    pub before : (k : ℕ) (d : A) → k + 1 ≡ low → number (get_or xs k d) ≤ n
    pub behind : (k : ℕ) (d : A) → k ≡ high → k < length xs → n < number (get_or xs k d)

  pub between_all : (n : ℕ) (xs : List A) (high : ℕ) → high ≡ length xs → IsBetween n xs 0 high
  between_all n xs high e = record {
    ordered = omega arith;
    within = omega (arith, e);
    before = λ k d q. absurd (omega (arith, q));
    behind = λ k d q lt. absurd (omega (arith, e, q, lt));
  }

  pub between_above : (n : ℕ) (xs : List A) (low high middle : ℕ) (x : A) → IsBetween n xs low high → middle < high → x ≡ get_or xs middle x → number x ≤ n → IsBetween n xs (middle + 1) high
  between_above n xs low high middle x h lt is le = record {
    ordered = omega (arith, lt);
    within = h.within;
    before = λ k d q. at k d (omega (arith, q));
    behind = h.behind;
  }
    where
      at : (k : ℕ) (d : A) → k ≡ middle → number (get_or xs k d) ≤ n
      at k d q =
          subst (λ j. number (get_or xs j d) ≤ n) (sym q)
          (subst (λ y. number y ≤ n) (is ∙ get_or_default xs middle x d (omega (arith, lt, h.within))) le)

  pub between_below : (n : ℕ) (xs : List A) (low high middle : ℕ) (x : A) → IsBetween n xs low high → low ≤ middle → middle < high → x ≡ get_or xs middle x → n < number x → IsBetween n xs low middle
  between_below n xs low high middle x h from lt is gt = record {
    ordered = from;
    within = omega (arith, lt, h.within);
    before = h.before;
    behind = λ k d q there. at k d q;
  }
    where
      at : (k : ℕ) (d : A) → k ≡ middle → n < number (get_or xs k d)
      at k d q =
          subst (λ j. n < number (get_or xs j d)) (sym q)
          (subst (λ y. n < number y) (is ∙ get_or_default xs middle x d (omega (arith, lt, h.within))) gt)

  pub between_end : (n : ℕ) (xs : List A) (low high : ℕ) → IsBetween n xs low high → high ≤ low → SplitsAt number n xs low
  between_end n xs low high h done = record {
    within = omega (arith, h.within, h.ordered);
    before = h.before;
    behind = λ d lt. h.behind low d (omega (arith, h.ordered, done)) lt;
  }

  -- the first is not greater and the second one is
  pub first_splits : (n : ℕ) (xs : List A) (x y : A) → 1 < length xs → x ≡ get_or xs 0 x → y ≡ get_or xs 1 y → number x ≤ n → n < number y → SplitsAt number n xs 1
  first_splits n xs x y lt one two le gt = record {
    within = omega (arith, lt);
    before = λ k d q. at k d (omega (arith, q));
    behind = λ d there. subst (λ z. n < number z) (two ∙ get_or_default xs 1 y d lt) gt;
  }
    where
      at : (k : ℕ) (d : A) → k ≡ 0 → number (get_or xs k d) ≤ n
      at k d q =
          subst (λ j. number (get_or xs j d) ≤ n) (sym q)
          (subst (λ z. number z ≤ n) (one ∙ get_or_default xs 0 x d (omega (arith, lt))) le)

  -- the place is from low to high, and one of these is looked at next
  pub record IsProbed (n : ℕ) (xs : List A) (low high middle : ℕ) : Type 0 where
    pub between : IsBetween n xs low high
    pub from : low < high → low ≤ middle
    pub to : low < high → middle < high

  pub probed_all : (n : ℕ) (xs : List A) (high middle : ℕ) → high ≡ length xs → (0 < length xs → middle < length xs) → IsProbed n xs 0 high middle
  probed_all n xs high middle e lt = record {
    between = between_all n xs high e;
    from = λ some. omega arith;
    to = λ some. omega (arith, e, lt (omega (arith, e, some)));
  }

  pub probed_above : (n : ℕ) (xs : List A) (low high middle stride : ℕ) (x : A) → IsProbed n xs low high middle → low < high → x ≡ get_or xs middle x → number x ≤ n
      → stride ≤ (high - (middle + 1)) / 2 → IsProbed n xs (middle + 1) high (middle + 1 + stride)
  probed_above n xs low high middle stride x h lt is le near = record {
    between = between_above n xs low high middle x h.between (h.to lt) is le;
    from = λ some. omega arith;
    to = λ some. omega (arith, near, some);
  }

  pub probed_below : (n : ℕ) (xs : List A) (low high middle stride next : ℕ) (x : A) → IsProbed n xs low high middle → low < high → x ≡ get_or xs middle x → n < number x
      → stride ≤ (middle - low) / 2 → next ≡ middle - (1 + stride) → IsProbed n xs low middle next
  probed_below n xs low high middle stride next x h lt is gt near e = record {
    between = between_below n xs low high middle x h.between (h.from lt) (h.to lt) is gt;
    from = λ some. omega (arith, near, some, e);
    to = λ some. omega (arith, some, e);
  }

  pub probed_end : (n : ℕ) (xs : List A) (low high middle : ℕ) → IsProbed n xs low high middle → high ≤ low → SplitsAt number n xs low
  probed_end n xs low high middle h done = between_end n xs low high h.between done

  -- no item has the number, where none is before the place that splits the list, and where the one before it has another
  pub none_in_front : (n : ℕ) (xs : List A) (at : ℕ) → SplitsAt number n xs at → at ≡ 0 → IsRising number xs → first_with number n xs ≡ None
  none_in_front n xs at s e h = first-missing number n xs at h s (λ k d q. absurd (omega (arith, e, q)))

  pub none_there : (n : ℕ) (xs : List A) (at k : ℕ) (x : A) → SplitsAt number n xs at → k + 1 ≡ at → x ≡ get_or xs k x → (number x ≡ n → ⊥) → IsRising number xs → first_with number n xs ≡ None
  none_there n xs at k x s e is ne h = first-missing number n xs at h s (λ j d q r. ne (same j d (omega (arith, e, q)) r))
    where
      same : (j : ℕ) (d : A) → j ≡ k → number (get_or xs j d) ≡ n → number x ≡ n
      same j d q r = ap number (is ∙ (get_or_default xs k x d (omega (arith, e, s.within)) ∙ ap (λ i. get_or xs i d) (sym q))) ∙ r

  pub number_at : (n : ℕ) (xs : List A) (k : ℕ) (x : A) → k < length xs → x ≡ get_or xs k x → number x ≡ n → (d : A) → number (get_or xs k d) ≡ n
  number_at n xs k x lt is e d = ap number (sym (is ∙ get_or_default xs k x d lt)) ∙ e

  -- ---- what the search for an item says

  pub found_first : (n : ℕ) (xs ys : List A) (at : ℕ) (x : A) → ys ≡ xs → x ≡ get_or xs at x → at < length ys → ((d : A) → number (get_or ys at d) ≡ n) → IsRising number xs → Some x ≡ first_with number n xs
  found_first n xs ys at x e is lt found rising =
      ap Some is ∙ sym (first-at number n xs at x rising (subst (λ (zs : List A). at < length zs) e lt) (subst (λ (zs : List A). number (get_or zs at x) ≡ n) e (found x)))

  pub found_here : (n : ℕ) (xs : List A) (at : ℕ) (x : A) → at < length xs → x ≡ get_or xs at x → number x ≡ n → IsRising number xs → first_with number n xs ≡ Some x
  found_here n xs at x lt is e rising = first-at number n xs at x rising lt (ap number (sym is) ∙ e) ∙ ap Some (sym is)

  pub found_left : (n : ℕ) (xs ys : List A) (at : ℕ) (d : A) → ys ≡ xs → at < length ys → ((e : A) → number (get_or ys at e) ≡ n) → IsRising number xs → remove xs at ≡ without number n xs
  found_left n xs ys at d e lt found rising =
      sym (without-at number n xs at d rising (subst (λ (zs : List A). at < length zs) e lt) (subst (λ (zs : List A). number (get_or zs at d) ≡ n) e (found d)))

  pub missing_left : (n : ℕ) (xs ys : List A) → ys ≡ xs → (IsRising number ys → first_with number n ys ≡ None) → IsRising number xs → xs ≡ without number n xs
  missing_left n xs ys e missing rising =
      sym (without-missing number n xs (subst (λ (zs : List A). first_with number n zs ≡ None) e (missing (subst (IsRising number) (sym e) rising))))
