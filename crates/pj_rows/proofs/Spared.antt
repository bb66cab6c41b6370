-- What rows that stay or go tell of punctuations.
use Rattle.std.proofs.Common.{ℕ, suc, ◌≤◌, Bool, true, false, cond, not, ◌&&◌, List, [], ◌∷◌, ◌≡◌, filter, length, inl, inr, refl, sym, ap, ◌∙◌, subst, eqb, arith}
use Rattle.std.proofs.lemmas.Bool.{eq-eqb}
use Rattle.std.proofs.lemmas.List.{length-map}
use Rattle.pj_value.proofs.Members.{In-filter_from, In-map_from, any_from, none_from}
use Rattle.pj_state.specs.declared.shared.Stored.{Stored}
use Rattle.pj_state.specs.States.{ticket_of}
use Rattle.pj_events.specs.Patterns.{Pattern, matches_row}
use Rattle.pj_events.specs.Join.{In, has}
use Rattle.pj_rows.specs.Finding.{stays, still_held, AreSome}

-- ---- where all go

short : (keep : Stored → Bool) (rows : List Stored) → length (filter keep rows) ≤ length rows
short keep [] = omega arith
short keep (r ∷ rows) = go (keep r) (short keep rows)
  where
    go : (b : Bool) → length (filter keep rows) ≤ length rows → length (cond b (r ∷ filter keep rows) (filter keep rows)) ≤ suc (length rows)
    go true le = omega (arith, le)
    go false le = omega (arith, le)

full : (keep : Stored → Bool) (rows : List Stored) → length (filter keep rows) ≡ length rows → (s : Stored) → In s rows → keep s ≡ true
full keep [] e s h = absurd h
full keep (r ∷ rows) e s h = go (keep r) refl e h (λ l k. full keep rows l s k)
  where
    go : (b : Bool) → keep r ≡ b → length (cond b (r ∷ filter keep rows) (filter keep rows)) ≡ suc (length rows) → In s (r ∷ rows) → (length (filter keep rows) ≡ length rows → In s rows → keep s ≡ true) → keep s ≡ true
    go true t l (inl same) ih = subst (λ (x : Stored). keep x ≡ true) same t
    go true t l (inr k) ih = ih (omega (arith, l)) k
    go false t l k ih = absurd (omega (arith, l, short keep rows))

pub all_gone : (rows : List Stored) (gone : List ℕ) (patterns : List Pattern) → AreSome rows gone → length gone ≡ length rows → still_held rows gone patterns ≡ false
all_gone rows gone patterns (keep, is) as-many = none_from (stays gone patterns) rows each
  where
    all : length (filter keep rows) ≡ length rows
    all = sym (length-map (filter keep rows) ticket_of) ∙ sym (ap (λ (ts : List ℕ). length ts) is) ∙ as-many

    each : (s : Stored) → In s rows → stays gone patterns s ≡ false
    each s h = ap (λ b. matches_row patterns s.row && not b) there ∙ none (matches_row patterns s.row)
      where
        inside : In s.ticket gone
        inside = subst (λ (ts : List ℕ). In s.ticket ts) (sym is) (In-map_from ticket_of s (filter keep rows) (In-filter_from keep s rows h (full keep rows all s h)))

        there : has gone s.ticket ≡ true
        there = any_from (λ m. eqb m s.ticket) gone s.ticket inside (eq-eqb s.ticket s.ticket refl)

        none : (b : Bool) → (b && false) ≡ false
        none true = refl
        none false = refl
