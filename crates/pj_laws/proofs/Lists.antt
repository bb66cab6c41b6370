-- Lists of entries in parts.
use Rattle.std.proofs.Common.{ℕ, Bool, true, false, ◌||◌, List, [], ◌∷◌, ◌++◌, ◌≡◌, flat_map, refl, sym, ap, ◌∙◌, subst, inl, inr, append_assoc, append-nil}
use Rattle.pj_events.specs.declared.events.Entry.{Entry}
use Rattle.pj_events.specs.declared.events.Event.{Event}
use Rattle.pj_events.specs.declared.events.Event.TheVariants.{Arrive, Take as Taken, Give as Given, Sweep as Swept, Drain, Halt, Look, Stopped, Idle}
use Rattle.pj_events.specs.History.{Reached, begun, halted_after, next, reached_from}
use Rattle.pj_events.specs.Join.{In}
use Rattle.pj_value.proofs.Members.{In-append_cases, In-append_left}
use Rattle.pj_laws.specs.Seats.{AreFedByOwn, AreStopsDue, GivenByTakers, IsFedByOwn, StopsWhereDue, giver_by, givers, halts, is_halted, stop_from, taker_by, takers}
use Rattle.pj_events.specs.Plan.{Node}

pub flat-append : {A B : Type 0} (f : A → List B) (xs ys : List A) → flat_map f (xs ++ ys) ≡ flat_map f xs ++ flat_map f ys
flat-append f [] ys = refl
flat-append f (x ∷ xs) ys = ap (λ (zs : List _). f x ++ zs) (flat-append f xs ys) ∙ sym (append_assoc (f x) (flat_map f xs) (flat_map f ys))

pub takers-append : (j u : ℕ) (xs ys : List Entry) → takers j u (xs ++ ys) ≡ takers j u xs ++ takers j u ys
takers-append j u xs ys = flat-append (λ entry. taker_by j u entry.seat entry.event) xs ys

pub givers-append : (j u : ℕ) (xs ys : List Entry) → givers j u (xs ++ ys) ≡ givers j u xs ++ givers j u ys
givers-append j u xs ys = flat-append (λ entry. giver_by j u entry.seat entry.event) xs ys

-- ---- what one more entry keeps

pub fed-more : (h : List Entry) (e : Entry) → AreFedByOwn h → IsFedByOwn e.seat e.event → AreFedByOwn (h ++ e ∷ [])
fed-more [] e f g = (g, tt)
fed-more (x ∷ h) e f g = (f.0, fed-more h e f.1 g)

-- a give by a seat that took the ticket, or an entry that gives none
pub given-more : (h : List Entry) (e : Entry) → GivenByTakers h → ((j u n : ℕ) → In n (giver_by j u e.seat e.event) → In n (takers j u h)) → GivenByTakers (h ++ e ∷ [])
given-more h e f g j u n i =
    subst (λ (ns : List ℕ). In n ns) (sym (takers-append j u h (e ∷ [])))
    (In-append_left n (takers j u h) (takers j u (e ∷ []))
    (elim (In-append_cases n (givers j u h) (givers j u (e ∷ [])) (subst (λ (ns : List ℕ). In n ns) (givers-append j u h (e ∷ [])) i)) [
      | inl k ↦ f j u n k
      | inr k ↦ g j u n (subst (λ (ns : List ℕ). In n ns) (append-nil (giver_by j u e.seat e.event)) k)
    ]))

pub due-more : (limit : ℕ) (nodes : List Node) (done h : List Entry) (e : Entry) → AreStopsDue limit nodes done h → StopsWhereDue limit nodes (done ++ h) e.event → AreStopsDue limit nodes done (h ++ e ∷ [])
due-more limit nodes done [] e f g = (subst (λ (l : List Entry). StopsWhereDue limit nodes l e.event) (append-nil done) g, tt)
due-more limit nodes done (x ∷ h) e f g =
    (f.0, due-more limit nodes (done ++ x ∷ []) h e f.1 (subst (λ (l : List Entry). StopsWhereDue limit nodes l e.event) (sym (append_assoc done (x ∷ []) h)) g))

-- ---- stops

pub stop-reached : (trace : Bool) (r : Reached) (h : List Entry) → (reached_from trace r h).stop ≡ stop_from r.stop h
stop-reached trace r [] = refl
stop-reached trace r (e ∷ h) = stop-reached trace (next trace r e) h

-- ---- halts

halt-next : (old : Bool) (event : Event) (rest : Bool) → (halted_after old event || rest) ≡ (old || (halts event || rest))
halt-next true Halt rest = refl
halt-next false Halt rest = refl
halt-next true (Arrive s e) rest = refl
halt-next false (Arrive s e) rest = refl
halt-next true (Taken j u) rest = refl
halt-next false (Taken j u) rest = refl
halt-next true (Given j u) rest = refl
halt-next false (Given j u) rest = refl
halt-next true (Swept j i) rest = refl
halt-next false (Swept j i) rest = refl
halt-next true Drain rest = refl
halt-next false Drain rest = refl
halt-next true (Look p) rest = refl
halt-next false (Look p) rest = refl
halt-next true (Stopped s) rest = refl
halt-next false (Stopped s) rest = refl
halt-next true Idle rest = refl
halt-next false Idle rest = refl

-- a halt came before, or is among these
halt-from : (trace : Bool) (r : Reached) (h : List Entry) → (reached_from trace r h).halted ≡ (r.halted || is_halted h)
halt-from trace r [] = go r.halted
  where
    go : (b : Bool) → b ≡ (b || false)
    go true = refl
    go false = refl
halt-from trace r (e ∷ h) =
    let rest : (reached_from trace (next trace r e) h).halted ≡ (halted_after r.halted e.event || is_halted h) = halt-from trace (next trace r e) h in
    rest ∙ halt-next r.halted e.event (is_halted h)

pub halt-reached : (trace : Bool) (plan : List Node) (h : List Entry) → (reached_from trace (begun plan) h).halted ≡ is_halted h
halt-reached trace plan h = halt-from trace (begun plan) h
