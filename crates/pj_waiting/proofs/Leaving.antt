-- What is left of the punctuations that wait.
use Rattle.std.proofs.Common.{ℕ, ◌<◌, Bool, true, false, cond, not, List, [], ◌∷◌, ◌++◌, ◌≡◌, filter, refl, sym, ap, ◌∙◌, subst, inl, inr, eqb, arith}
use Rattle.std.proofs.lemmas.Bool.{eq-eqb, eqb-true, false_from_ne_true, false≢true}
use Rattle.pj_value.proofs.Members.{In-filter, In-filter_from, In-map, In-map_from, any_at, any_from}
use Rattle.pj_state.specs.Rising.{IsRising}
use Rattle.pj_events.specs.Join.{In, PunctAt, has}
use Rattle.pj_waiting.specs.Holding.{tickets_where, held_at}
use Rattle.pj_waiting.specs.Leaving.{puncts_but}
use Rattle.pj_rows.proofs.Rising.{above-in}

-- two punctuations with one ticket are the same
pub alone : (ps : List PunctAt) (p q : PunctAt) → IsRising held_at ps → In p ps → In q ps → p.ticket ≡ q.ticket → p ≡ q
alone [] p q r h k e = absurd h
alone (x ∷ ps) p q r (inl a) (inl b) e = sym a ∙ b
alone (x ∷ ps) p q r (inl a) (inr k) e = let l : x.ticket < q.ticket = above-in held_at x.ticket ps q r.0 k in let s : x.ticket ≡ p.ticket = ap held_at a in absurd (omega (arith, l, s, e))
alone (x ∷ ps) p q r (inr h) (inl b) e = let l : x.ticket < p.ticket = above-in held_at x.ticket ps p r.0 h in let s : x.ticket ≡ q.ticket = ap held_at b in absurd (omega (arith, l, s, e))
alone (x ∷ ps) p q r (inr h) (inr k) e = alone ps p q r.1 h k e

-- the tickets of those that pass tell which pass
pub tells_where : (goes : PunctAt → Bool) (ps : List PunctAt) (tickets : List ℕ) (p : PunctAt) → IsRising held_at ps → tickets ≡ tickets_where goes ps → In p ps → has tickets p.ticket ≡ goes p
tells_where goes ps tickets p r is h = ap (λ ns. has ns p.ticket) is ∙ go (goes p) refl
  where
    go : (b : Bool) → goes p ≡ b → has (tickets_where goes ps) p.ticket ≡ goes p
    go true e = any_from (λ n. eqb n p.ticket) (tickets_where goes ps) p.ticket (In-map_from held_at p (filter goes ps) (In-filter_from goes p ps h e)) (eq-eqb p.ticket p.ticket refl) ∙ sym e
    go false e = false_from_ne_true (has (tickets_where goes ps) p.ticket) none ∙ sym e
      where
        none : has (tickets_where goes ps) p.ticket ≡ true → ⊥
        none t =
            let m = any_at (λ n. eqb n p.ticket) (tickets_where goes ps) t in
            let q = In-map held_at m.0 (filter goes ps) m.1 in
            let inside = In-filter goes q.0 ps q.1 in
            let same : q.0 ≡ p = alone ps q.0 p r inside.0 h (q.2 ∙ eqb-true m.0 p.ticket m.2) in
            false≢true (sym e ∙ subst (λ (x : PunctAt). goes x ≡ true) same inside.1)

-- one that came last is taken out again
pub last_taken : (ps : List PunctAt) (p : PunctAt) → ((q : PunctAt) → In q ps → q.ticket < p.ticket) → puncts_but p.ticket (ps ++ p ∷ []) ≡ ps
last_taken [] p before = ap (λ b. cond (not b) (p ∷ []) []) (eq-eqb p.ticket p.ticket refl)
last_taken (q ∷ ps) p before =
    ap (λ b. cond (not b) (q ∷ puncts_but p.ticket (ps ++ p ∷ [])) (puncts_but p.ticket (ps ++ p ∷ []))) (false_from_ne_true (eqb q.ticket p.ticket) (λ t. let l = before q (inl refl) in let e = eqb-true q.ticket p.ticket t in omega (arith, l, e)))
    ∙ ap (λ (qs : List PunctAt). q ∷ qs) (last_taken ps p (λ x h. before x (inr h)))
