-- The row with a ticket.
use Rattle.std.proofs.Common.{ℕ, ◌+◌, ◌-◌, ◌<◌, Bool, true, false, cond, List, [], ◌∷◌, ◌++◌, ◌≡◌, Some, flat_map, refl, sym, ap, ◌∙◌, subst, inl, inr, eqb, arith, append_assoc, append-nil}
use Rattle.std.proofs.lemmas.Bool.{eq-eqb, eqb-true, false_from_ne_true}
use Rattle.pj_state.specs.declared.shared.Stored.{Stored}
use Rattle.pj_state.specs.Rising.{IsRising, first_with}
use Rattle.pj_state.specs.States.{row_in as row_found, row_under, stored, ticket_of}
use Rattle.pj_events.specs.Join.{In}
use Rattle.pj_rows.specs.Tuples.{under_with}
use Rattle.pj_rows.proofs.Rising.{above-in}

-- ---- all of them

pub flat-more : {A B : Type 0} (f : A → List B) (xs : List A) (x : A) → flat_map f (xs ++ x ∷ []) ≡ flat_map f xs ++ f x
flat-more f [] x = append-nil (f x)
flat-more f (y ∷ ys) x = ap (λ zs. f y ++ zs) (flat-more f ys x) ∙ sym (append_assoc (f y) (flat_map f ys) (f x))

-- ---- the ripe rows

pub under-in : (rows : List Stored) (t : ℕ) (s : Stored) → In s (under_with t (row_under t rows)) → In s rows × (s.ticket ≡ t)
under-in [] t s h = absurd h
under-in (r ∷ rows) t s h = go (eqb r.ticket t) refl h (under-in rows t s)
  where
    go : (b : Bool) → eqb r.ticket t ≡ b → In s (under_with t (row_found (cond b (Some r) (first_with ticket_of t rows)))) → (In s (under_with t (row_under t rows)) → In s rows × (s.ticket ≡ t)) → In s (r ∷ rows) × (s.ticket ≡ t)
    go true e (inl q) ih = (inl (ap (λ n. stored n r.row) (eqb-true r.ticket t e) ∙ q), sym (ap ticket_of q))
    go true e (inr k) ih = absurd k
    go false e k ih = (inr (ih k).0, (ih k).1)

pub under-own : (rows : List Stored) (s : Stored) → IsRising ticket_of rows → In s rows → Some s.row ≡ row_under s.ticket rows
under-own [] s r h = absurd h
under-own (t ∷ rows) s r (inl e) = subst (λ (u : Stored). Some u.row ≡ row_under u.ticket (t ∷ rows)) e (sym (ap (λ b. row_found (cond b (Some t) (first_with ticket_of t.ticket rows))) (eq-eqb t.ticket t.ticket refl)))
under-own (t ∷ rows) s r (inr h) =
    let a : t.ticket < s.ticket = above-in ticket_of t.ticket rows s r.0 h in
    under-own rows s r.1 h ∙ sym (ap (λ b. row_found (cond b (Some t) (first_with ticket_of s.ticket rows))) (false_from_ne_true (eqb t.ticket s.ticket) (λ q. let e = eqb-true t.ticket s.ticket q in omega (arith, a, e))))
