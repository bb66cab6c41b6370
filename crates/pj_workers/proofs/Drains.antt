-- What the drains of a seat hand out, turn by turn.
use Rattle.std.proofs.Common.{ℕ, Bool, true, false, cond, eqb, List, [], ◌∷◌, ◌++◌, ◌≡◌, refl, sym, ap, ◌∙◌, append_assoc}
use Rattle.pj_events.specs.declared.events.Entry.{Entry}
use Rattle.pj_events.specs.declared.events.Event.{Event}
use Rattle.pj_events.specs.declared.events.Event.TheVariants.{Arrive, Take as Taken, Give as Given, Sweep as Swept, Drain, Halt, Look as Looked, Stopped, Idle}
use Rattle.pj_events.specs.declared.events.Out.{Out}
use Rattle.pj_events.specs.History.{Reached, begun, next, reached_of}
use Rattle.pj_events.specs.Outcomes.{drained_by, drained_from}
use Rattle.pj_laws.specs.Seats.{HubPlan, made_by, seated}
use Rattle.pj_laws.proofs.Drained.{drained-gains}
use Rattle.pj_seats.specs.Answers.{HandsOut, Turned}
use Rattle.pj_workers.specs.Writes.{drained_in}

-- none of these entries hands out anything to the seat
abbrev AreQuiet : ℕ → List Entry → Type 0
AreQuiet n [] = Unit {0}
AreQuiet n (e ∷ es) = ((outs : List Out) → drained_by n e.seat outs e.event ≡ []) × AreQuiet n es

other-is-quiet : (n by : ℕ) (event : Event) → eqb by n ≡ false → (outs : List Out) → drained_by n by outs event ≡ []
other-is-quiet n by Drain other outs = ap (λ (b : Bool). cond b outs []) other
other-is-quiet n by (Arrive s e) other outs = refl
other-is-quiet n by (Taken j u) other outs = refl
other-is-quiet n by (Given j u) other outs = refl
other-is-quiet n by (Swept j i) other outs = refl
other-is-quiet n by Halt other outs = refl
other-is-quiet n by (Looked p) other outs = refl
other-is-quiet n by (Stopped s) other outs = refl
other-is-quiet n by Idle other outs = refl

-- entries of other seats, and one of its own that is quiet
are-quiet : (n : ℕ) (behind : List Entry) (e : Entry) → made_by n behind ≡ [] → ((outs : List Out) → drained_by n e.seat outs e.event ≡ []) → AreQuiet n (behind ++ e ∷ [])
are-quiet n [] e none quiet = (quiet, tt)
are-quiet n (x ∷ behind) e none quiet = go (eqb x.seat n) refl none (are-quiet n behind e)
  where
    go : (b : Bool) → eqb x.seat n ≡ b → cond b (x ∷ made_by n behind) (made_by n behind) ≡ [] → (made_by n behind ≡ [] → ((outs : List Out) → drained_by n e.seat outs e.event ≡ []) → AreQuiet n (behind ++ e ∷ []))
        → AreQuiet n (x ∷ (behind ++ e ∷ []))
    go true q k ih = absurd (cc)
    go false q k ih = (other-is-quiet n x.seat x.event q, ih k quiet)

nothing-from : (trace : Bool) (r : Reached) (es : List Entry) (n : ℕ) → AreQuiet n es → drained_from trace r es n ≡ []
nothing-from trace r [] n quiet = refl
nothing-from trace r (e ∷ es) n quiet = ap (λ (outs : List Out). outs ++ drained_from trace (next trace r e) es n) (quiet.0 r.undrained) ∙ nothing-from trace (next trace r e) es n quiet.1

nothing-more : (trace : Bool) (r : Reached) (xs es : List Entry) (n : ℕ) → AreQuiet n es → drained_from trace r (xs ++ es) n ≡ drained_from trace r xs n
nothing-more trace r [] es n quiet = nothing-from trace r es n quiet
nothing-more trace r (x ∷ xs) es n quiet = ap (λ (outs : List Out). drained_by n x.seat r.undrained x.event ++ outs) (nothing-more trace (next trace r x) xs es n quiet)

-- a turn that drains hands out what it gains
pub drain-gains : (hub : HubPlan) (n : ℕ) (before after : List Entry) (outs : List Out) → Turned hub n before after (λ history. seated n Drain 0) (HandsOut hub outs) → drained_in hub n after ≡ drained_in hub n before ++ outs
drain-gains hub n before after outs t =
    ap (λ (l : List Entry). drained_in hub n l) (t.seen ∙ ap (λ (l : List Entry). l ++ seated n Drain 0 ∷ []) t.begins)
    ∙ (drained-gains hub.trace hub.nodes before t.behind n t.no_own
    ∙ ap (λ (l : List Out). drained_in hub n before ++ l) (ap (λ (l : List Entry). (reached_of hub.trace hub.nodes l).undrained) (sym t.begins) ∙ sym t.answers))

-- a turn that is quiet gains nothing
pub quiet-gains : (hub : HubPlan) (n : ℕ) (before after : List Entry) (event : Event) (told : List Entry → Type 0) → ((outs : List Out) → drained_by n n outs event ≡ []) → Turned hub n before after (λ history. seated n event 0) told
    → drained_in hub n after ≡ drained_in hub n before
quiet-gains hub n before after event told quiet t =
    ap (λ (l : List Entry). drained_in hub n l) (t.seen ∙ (ap (λ (l : List Entry). l ++ seated n event 0 ∷ []) t.begins ∙ append_assoc before t.behind (seated n event 0 ∷ [])))
    ∙ nothing-more hub.trace (begun hub.nodes) before (t.behind ++ seated n event 0 ∷ []) n (are-quiet n t.behind (seated n event 0) t.no_own quiet)
