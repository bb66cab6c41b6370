-- What settles a core: probes and sweeps alone.
use Rattle.std.proofs.Common.{ℕ, zero, suc, ◌+◌, ◌≡◌, Bool, true, List, [], ◌∷◌, ◌++◌, length, refl, sym, ap, ap₂, ◌∙◌, subst, append_assoc, append-nil}
use Rattle.pj_events.specs.declared.events.Entry.{Entry}
use Rattle.pj_events.specs.declared.events.Event.TheVariants.{Take as Taken, Give as Given, Stopped, Sweep as Swept}
use Rattle.pj_events.specs.declared.events.Out.{Out}
use Rattle.pj_events.specs.declared.events.Stop.{Stop}
use Rattle.pj_events.specs.Plan.{Node}
use Rattle.pj_events.specs.History.{Reached, begun, nodes_from, reached_of}
use Rattle.pj_events.specs.OneThread.{Place, pending_at, places_from, plain, probes, probes_at, probes_from, sweeps_at}
use Rattle.pj_events.specs.Outcomes.{elements_of, outputs_of}
use Rattle.pj_pattern.specs.declared.element.Element.{Element}
use Rattle.pj_laws.proofs.OneRun.{elements-append}
use Rattle.pj_laws.proofs.Drains.{AreNoDrains, front-no-drains, kept-outs, push-no-drains}
use Rattle.pj_laws.proofs.Histories.{outputs-append, reached-append, reached-nodes}
use Rattle.pj_laws.proofs.Idle.{stop-silent}
use Rattle.pj_core.specs.Cores.{CoreState, StandsFor, nodes_after, nodes_in}
use Rattle.pj_core.specs.Plans.{RunPlan, nodes_of}
use Rattle.pj_core.specs.Turns.{probing, swept_where, working}
use Rattle.pj_parallel.specs.Settling.{outs_with}

-- this holds of lists of probes and of sweeps, one behind the other
record IsOfWork (Holds : List Entry → Type 0) : Type 0 where
  none : Holds []
  both : (xs ys : List Entry) → Holds xs → Holds ys → Holds (xs ++ ys)
  probe : (join ticket : ℕ) → Holds (plain (Taken join ticket) ∷ plain (Given join ticket) ∷ [])
  sweep : (join input : ℕ) → Holds (plain (Swept join input) ∷ [])

module _ (Holds : List Entry → Type 0) (of : IsOfWork Holds) where
  of-probes : (join : ℕ) (tickets : List ℕ) → Holds (probes_at join tickets)
  of-probes join [] = of.none
  of-probes join (ticket ∷ tickets) = of.both (plain (Taken join ticket) ∷ plain (Given join ticket) ∷ []) (probes_at join tickets) (of.probe join ticket) (of-probes join tickets)

  of-all-probes : (count join : ℕ) (nodes : List Node) → Holds (probes_from nodes join count)
  of-all-probes zero join nodes = of.none
  of-all-probes (suc count) join nodes =
      let here = probes_at join (pending_at nodes join) in of.both here (probes_from (nodes_from nodes here) (join + 1) count) (of-probes join (pending_at nodes join)) (of-all-probes count (join + 1) (nodes_from nodes here))

  of-sweeps : (places : List Place) (nodes : List Node) → Holds (sweeps_at nodes places)
  of-sweeps [] nodes = of.none
  of-sweeps (place ∷ places) nodes =
      let here : List Entry = plain (Swept place.join place.input) ∷ [] in
      let swept : List Node = nodes_from nodes here in
      let after : List Entry = here ++ probes swept in
      of.both after (sweeps_at (nodes_from nodes after) places) (of.both here (probes swept) (of.sweep place.join place.input) (of-all-probes (length swept) 0 swept)) (of-sweeps places (nodes_from nodes after))

  of-work : (core : CoreState) (h : List Entry) → Holds (working true core h)
  of-work core h =
      let behind = nodes_after core (h ++ probing core h) in
      of.both (probing core h) (swept_where true core (h ++ probing core h)) (of-all-probes (length (nodes_after core h)) 0 (nodes_after core h)) (of-sweeps (places_from 0 behind) behind)

-- work does not drain
quiet-front : (ys : List Entry) → AreNoDrains ys → (xs : List Entry) → AreNoDrains xs → AreNoDrains (xs ++ ys)
quiet-front ys q [] p = q
quiet-front ys q (x ∷ xs) p = (p.0, quiet-front ys q xs p.1)

work-drains-nothing : (core : CoreState) (h : List Entry) → AreNoDrains (working true core h)
work-drains-nothing core h = of-work AreNoDrains (record { none = tt; both = λ xs ys p q. quiet-front ys q xs p; probe = λ join ticket. (tt, (tt, tt)); sweep = λ join input. (tt, tt) }) core h

-- what is not drained where a core stopped behind a front of its work
pub outs-until : (old stopped : CoreState) (h front back : List Entry) (stop : Stop) → stopped.plan ≡ old.plan → StandsFor old h → working true old h ≡ front ++ back → StandsFor stopped (h ++ front ++ plain (Stopped stop) ∷ [])
    → stopped.kept.undrained ≡ outs_with old h front
outs-until old stopped h front back stop plan stood parts stands =
    stands.stands.1
    ∙ (ap (λ (p : RunPlan). (reached_of p.trace (nodes_of p) (h ++ front ++ plain (Stopped stop) ∷ [])).undrained) plan
    ∙ (ap (λ (es : List Entry). (reached_of trace nodes es).undrained) (append_assoc h front (plain (Stopped stop) ∷ []))
    ∙ (ap (λ (r : Reached). r.undrained) (reached-append trace (begun nodes) h with-stop)
    ∙ (kept-outs trace here with-stop (push-no-drains front (plain (Stopped stop)) (front-no-drains front back (subst AreNoDrains parts (work-drains-nothing old h))) tt)
    ∙ (ap₂ (λ (outs : List Out) (ns : List Node). outs ++ outputs_of trace ns with-stop) (sym stood.stands.1) (reached-nodes trace (begun nodes) h)
    ∙ ap (λ (outs : List Out). old.kept.undrained ++ outs)
    (outputs-append trace (nodes_after old h) front (plain (Stopped stop) ∷ [])
    ∙ (ap (λ (outs : List Out). outputs_of trace (nodes_after old h) front ++ (outs ++ [])) (stop-silent trace (nodes_from (nodes_after old h) front) stop)
    ∙ append-nil (outputs_of trace (nodes_after old h) front))))))))
  where
    trace : Bool
    trace = old.plan.trace

    nodes : List Node
    nodes = nodes_in old

    here : Reached
    here = reached_of trace nodes h

    with-stop : List Entry
    with-stop = front ++ plain (Stopped stop) ∷ []

-- and nothing arrives in it
pub work-brings-nothing : (stream : ℕ) (core : CoreState) (h : List Entry) → elements_of stream (working true core h) ≡ []
work-brings-nothing stream core h =
    of-work (λ (es : List Entry). elements_of stream es ≡ [])
    (record { none = refl; both = λ xs ys p q. elements-append stream xs ys ∙ ap₂ (λ (xs ys : List Element). xs ++ ys) p q; probe = λ join ticket. refl; sweep = λ join input. refl }) core h
