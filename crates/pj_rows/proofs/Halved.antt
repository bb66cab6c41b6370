-- Looking for a ticket among tickets that rise.
use Rattle.std.proofs.Common.{ℕ, zero, suc, ◌-◌, ◌<◌, ◌≤◌, ◌≡◌, ◌⊎◌, inl, inr, false, ◌||◌, List, [], ◌∷◌, Bool, Result, Ok, Err, filter, length, get_or, nat_cmp, eqb, refl, ap, sym, subst, ◌∙◌, arith}
use Rattle.std.specs.Result.{is_ok}
use Rattle.std.specs.List.Sorted.{IsBinarySearchResult}
use Rattle.std.proofs.lemmas.Bool.{eq-eqb, eqb-true, false_from_ne_true}
use Rattle.std.proofs.lemmas.List.Sorted.{searched}
use Rattle.pj_value.proofs.Members.{any_from, in-place}
use Rattle.pj_state.specs.declared.shared.Stored.{Stored}
use Rattle.pj_state.specs.Rising.{AllAbove, IsRising, itself}
use Rattle.pj_state.specs.States.{ticket_of, tickets_of}
use Rattle.pj_state.proofs.Rising.{above-at, rising-filter}
use Rattle.pj_events.specs.Join.{In, has}

in_order : (ns : List ℕ) → IsRising itself ns → (i j : ℕ) → i ≤ j → j < length ns → get_or ns i 0 ≤ get_or ns j 0
in_order [] r i j le lt = absurd (omega (arith, lt))
in_order (n ∷ ns) r zero zero le lt = omega arith
in_order (n ∷ ns) r zero (suc j) le lt = let above : n < get_or ns j 0 = above-at itself n ns j 0 r.0 (omega (arith, lt)) in omega (arith, above)
in_order (n ∷ ns) r (suc i) zero le lt = absurd (omega (arith, le))
in_order (n ∷ ns) r (suc i) (suc j) le lt = in_order ns r.1 i j (omega (arith, le)) (omega (arith, lt))

has_none : (ns : List ℕ) (n : ℕ) → ((k : ℕ) → k < length ns → get_or ns k 0 ≡ n → ⊥) → has ns n ≡ false
has_none [] n other = refl
has_none (m ∷ ns) n other = ap (λ b. b || has ns n) (false_from_ne_true (eqb m n) (λ t. other 0 (omega arith) (eqb-true m n t))) ∙ has_none ns n (λ k lt. other (suc k) (omega (arith, lt)))

pub has_searched : (ns : List ℕ) (n : ℕ) (r : Result ℕ ℕ) → IsRising itself ns → IsBinarySearchResult (λ m. nat_cmp m n) ns r → is_ok r ≡ has ns n
has_searched ns n (Ok i) r found =
    let at = searched ns n (Ok i) found (in_order ns r) in
    sym (any_from (λ m. eqb m n) ns n (subst (λ m. In m ns) at.1 (in-place ns 0 i at.0)) (eq-eqb n n refl))
has_searched ns n (Err i) r found =
    let parts = searched ns n (Err i) found (in_order ns r) in
    sym (has_none ns n (λ k lt e. elim (split k i) [ inl under ↦ (let less = parts.1 k under in absurd (omega (arith, less, e))) | inr past ↦ (let more = parts.2 k past lt in absurd (omega (arith, more, e))) ]))
  where
    split : (k i : ℕ) → (k < i) ⊎ (i ≤ k)
    split k zero = inr (omega arith)
    split zero (suc i) = inl (omega arith)
    split (suc k) (suc i) = elim (split k i) [ inl l ↦ inl (omega (arith, l)) | inr l ↦ inr (omega (arith, l)) ]

-- none of the numbers is greater than the last
pub has_past : (ns : List ℕ) (n : ℕ) → IsRising itself ns → get_or ns (length ns - 1) 0 < n → false ≡ has ns n
has_past ns n r lt = sym (has_none ns n (λ k within e. let le = in_order ns r k (length ns - 1) (omega (arith, within)) (omega (arith, within)) in omega (arith, le, e, lt)))

pub has_nothing : (ns : List ℕ) (n : ℕ) → length ns ≡ 0 → false ≡ has ns n
has_nothing [] n e = refl
has_nothing (m ∷ ns) n e = absurd (omega (arith, e))

-- the tickets of some rows rise as those of all do
pub some_rise : (p : Stored → Bool) (rows : List Stored) → IsRising ticket_of rows → IsRising itself (tickets_of (filter p rows))
some_rise p rows r = tickets (filter p rows) (rising-filter ticket_of p rows r)
  where
    above : (n : ℕ) (xs : List Stored) → AllAbove ticket_of n xs → AllAbove itself n (tickets_of xs)
    above n [] a = tt
    above n (x ∷ xs) a = (a.0, above n xs a.1)

    tickets : (xs : List Stored) → IsRising ticket_of xs → IsRising itself (tickets_of xs)
    tickets [] q = tt
    tickets (x ∷ xs) q = (above x.ticket xs q.0, tickets xs q.1)
