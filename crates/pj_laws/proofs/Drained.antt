-- What the drains of a seat handed out.
use Rattle.std.proofs.Common.{ℕ, Bool, true, false, cond, eqb, List, [], ◌∷◌, ◌++◌, ◌≡◌, refl, sym, ap, ap₂, ◌∙◌, append_assoc, append-nil}
use Rattle.std.proofs.lemmas.Bool.{eq-eqb}
use Rattle.pj_events.specs.declared.events.Entry.{Entry}
use Rattle.pj_events.specs.declared.events.Event.{Event}
use Rattle.pj_events.specs.declared.events.Event.TheVariants.{Arrive, Take as Taken, Give as Given, Sweep as Swept, Drain, Halt, Look, Stopped, Idle}
use Rattle.pj_events.specs.declared.events.Out.{Out}
use Rattle.pj_events.specs.Plan.{Node}
use Rattle.pj_events.specs.History.{Reached, begun, next, reached_from, reached_of}
use Rattle.pj_events.specs.Outcomes.{drained_by, drained_from, drained_of}
use Rattle.pj_laws.specs.Seats.{made_by, seated}

drained-append : (trace : Bool) (r : Reached) (xs ys : List Entry) (n : ℕ) → drained_from trace r (xs ++ ys) n ≡ drained_from trace r xs n ++ drained_from trace (reached_from trace r xs) ys n
drained-append trace r [] ys n = refl
drained-append trace r (x ∷ xs) ys n =
    ap (λ (outs : List Out). drained_by n x.seat r.undrained x.event ++ outs) (drained-append trace (next trace r x) xs ys n)
    ∙ sym (append_assoc (drained_by n x.seat r.undrained x.event) (drained_from trace (next trace r x) xs n) (drained_from trace (reached_from trace (next trace r x) xs) ys n))

other-drains : (n seat : ℕ) (outs : List Out) (event : Event) → eqb seat n ≡ false → drained_by n seat outs event ≡ []
other-drains n seat outs Drain o = ap (λ (b : Bool). cond b outs []) o
other-drains n seat outs (Arrive s e) o = refl
other-drains n seat outs (Taken j u) o = refl
other-drains n seat outs (Given j u) o = refl
other-drains n seat outs (Swept j i) o = refl
other-drains n seat outs Halt o = refl
other-drains n seat outs (Look p) o = refl
other-drains n seat outs (Stopped s) o = refl
other-drains n seat outs Idle o = refl

none-drained : (trace : Bool) (r : Reached) (h : List Entry) (n : ℕ) → made_by n h ≡ [] → drained_from trace r h n ≡ []
none-drained trace r [] n e = refl
none-drained trace r (x ∷ h) n e = go (eqb x.seat n) refl e (λ k. none-drained trace (next trace r x) h n k)
  where
    go : (b : Bool) → eqb x.seat n ≡ b → cond b (x ∷ made_by n h) (made_by n h) ≡ [] → (made_by n h ≡ [] → drained_from trace (next trace r x) h n ≡ []) → drained_by n x.seat r.undrained x.event ++ drained_from trace (next trace r x) h n ≡ []
    go true q k ih = absurd (cc)
    go false q k ih = ap (λ (outs : List Out). outs ++ drained_from trace (next trace r x) h n) (other-drains n x.seat r.undrained x.event q) ∙ ih k

-- one more drain of a seat hands out what was not drained; in between it handed out nothing
pub drained-gains : (trace : Bool) (plan : List Node) (before behind : List Entry) (n : ℕ) → made_by n behind ≡ []
    → drained_of trace plan ((before ++ behind) ++ seated n Drain 0 ∷ []) n ≡ drained_of trace plan before n ++ (reached_of trace plan (before ++ behind)).undrained
drained-gains trace plan before behind n none =
    drained-append trace (begun plan) (before ++ behind) (seated n Drain 0 ∷ []) n
    ∙ ap₂ (λ (xs ys : List Out). xs ++ ys)
    (drained-append trace (begun plan) before behind n
    ∙ ap (λ (outs : List Out). drained_of trace plan before n ++ outs) (none-drained trace (reached_of trace plan before) behind n none)
    ∙ append-nil (drained_of trace plan before n))
    (ap (λ (b : Bool). cond b (reached_of trace plan (before ++ behind)).undrained [] ++ []) (eq-eqb n n refl) ∙ append-nil (reached_of trace plan (before ++ behind)).undrained)
