-- Entries without drains: what they hand out stays to be drained.
use Rattle.std.proofs.Common.{ℕ, Bool, List, [], ◌∷◌, ◌++◌, ◌≡◌, refl, sym, ap, ◌∙◌, append_assoc}
use Rattle.std.proofs.lemmas.List.{append-nil}
use Rattle.pj_events.specs.declared.events.Entry.{Entry}
use Rattle.pj_events.specs.declared.events.Event.{Event}
use Rattle.pj_events.specs.declared.events.Out.{Out}
use Rattle.pj_events.specs.declared.events.Event.TheVariants.{Arrive, Take as Taken, Give as Given, Sweep as Swept, Drain, Halt, Look, Stopped, Idle}
use Rattle.pj_events.specs.History.{Reached, next, nodes_by, gained, undrained_after, reached_from}
use Rattle.pj_events.specs.Outcomes.{outputs_of}
use Rattle.pj_events.specs.OneThread.{plain, probes_at}

abbrev pub IsNoDrain : Event → Type 0
IsNoDrain Drain = ⊥
IsNoDrain _ = Unit {0}

abbrev pub AreNoDrains : List Entry → Type 0
AreNoDrains [] = Unit {0}
AreNoDrains (entry ∷ entries) = IsNoDrain entry.event × AreNoDrains entries

pub front-no-drains : (front back : List Entry) → AreNoDrains (front ++ back) → AreNoDrains front
front-no-drains [] back n = tt
front-no-drains (entry ∷ front) back n = (n.0, front-no-drains front back n.1)

pub push-no-drains : (front : List Entry) (entry : Entry) → AreNoDrains front → IsNoDrain entry.event → AreNoDrains (front ++ entry ∷ [])
push-no-drains [] entry n e = (e, tt)
push-no-drains (f ∷ front) entry n e = (n.0, push-no-drains front entry n.1 e)

one-kept : (trace : Bool) (r : Reached) (event : Event) → IsNoDrain event → undrained_after trace r event ≡ r.undrained ++ gained trace r.nodes event
one-kept trace r (Arrive s e) n = refl
one-kept trace r (Taken j t) n = refl
one-kept trace r (Given j t) n = refl
one-kept trace r (Swept j i) n = refl
one-kept trace r Drain n = absurd n
one-kept trace r Halt n = refl
one-kept trace r (Look k) n = refl
one-kept trace r (Stopped s) n = refl
one-kept trace r Idle n = refl

pub kept-outs : (trace : Bool) (r : Reached) (es : List Entry) → AreNoDrains es → (reached_from trace r es).undrained ≡ r.undrained ++ outputs_of trace r.nodes es
kept-outs trace r [] n = sym (append-nil r.undrained)
kept-outs trace r (e ∷ es) n =
    kept-outs trace (next trace r e) es n.1
    ∙ ap (λ (outs : List Out). outs ++ outputs_of trace (nodes_by r.nodes e.event) es) (one-kept trace r e.event n.0)
    ∙ append_assoc r.undrained (gained trace r.nodes e.event) (outputs_of trace (nodes_by r.nodes e.event) es)

-- ---- probes at one join

pub probes-append : (join : ℕ) (ts us : List ℕ) → probes_at join (ts ++ us) ≡ probes_at join ts ++ probes_at join us
probes-append join [] us = refl
probes-append join (t ∷ ts) us = ap (λ (es : List Entry). plain (Taken join t) ∷ plain (Given join t) ∷ es) (probes-append join ts us)

pub probes-no-drains : (join : ℕ) (ts : List ℕ) → AreNoDrains (probes_at join ts)
probes-no-drains join [] = tt
probes-no-drains join (t ∷ ts) = (tt, (tt, probes-no-drains join ts))
