-- What settling a hand hands out, and how it ends.
use Rattle.std.proofs.Common.{ℕ, zero, suc, ◌+◌, ◌≡◌, Bool, true, List, [], ◌∷◌, ◌++◌, Option, Some, None, Result, Ok, Err, IfErr, IsTrue, length, refl, sym, ap, ap₂, ◌∙◌, subst, inl, inr, append_assoc, append-nil}
use Rattle.pj_io.specs.States.{SinkState}
use Rattle.pj_events.specs.declared.events.Entry.{Entry}
use Rattle.pj_events.specs.declared.events.Event.TheVariants.{Drain, Stopped, Sweep as Swept}
use Rattle.pj_events.specs.declared.events.Out.{Out}
use Rattle.pj_events.specs.declared.events.Stop.{Stop}
use Rattle.pj_events.specs.declared.events.Stop.TheVariants.{Limit, NoMemory}
use Rattle.pj_events.specs.History.{Reached, begun, nodes_from, reached_from, reached_of}
use Rattle.pj_events.specs.OneThread.{Place, pending_at, places_from, plain, probes, probes_at, probes_from, sweeps_at}
use Rattle.pj_events.specs.Outcomes.{outputs_of}
use Rattle.pj_events.specs.Plan.{Node}
use Rattle.pj_laws.proofs.Drains.{AreNoDrains, front-no-drains, kept-outs, probes-no-drains, push-no-drains}
use Rattle.pj_laws.proofs.Histories.{outputs-append, reached-append, reached-nodes}
use Rattle.pj_laws.proofs.Idle.{stop-silent}
use Rattle.pj_core.specs.Cores.{StandsFor, nodes_after, nodes_in}
use Rattle.pj_core.specs.Plans.{RunPlan, nodes_of}
use Rattle.pj_core.specs.Turns.{MakesSome, working}
use Rattle.pj_core.proofs.Making.{stops-longer}
use Rattle.pj_script.specs.Playing.{gives_at, gives_from, under_way_at}
use Rattle.pj_hand.specs.Hands.{HandState, HandStandsFor}
use Rattle.pj_hand.specs.Settling.{IsSettlingRefused, MakesFront, giving, settling, unsettled}
use Rattle.pj_hand.proofs.Settles.{drain-is-last}
use Rattle.pj_report.specs.declared.stops.WriteStop.{WriteStop}
use Rattle.pj_report.specs.declared.stops.WriteStop.TheVariants.{Failed, NoMemory as WriteMemory}
use Rattle.pj_report.specs.declared.writer.Form.{Form}
use Rattle.pj_report.specs.Forms.{shown}
use Rattle.pj_report.specs.Written.{Cut, FrontOf, Leaves, WritesBy, anywhere, between, flat, write_cut}
use Rattle.pj_report.proofs.Forms.{shown-append}
use Rattle.pj_report.proofs.LinesWritten.{first_written, stop_first}
use Rattle.pj_run.specs.declared.stops.TurnStop.{TurnStop}
use Rattle.pj_run.specs.Cuts.{turn_cut}
use Rattle.pj_run.specs.Stops.{end_of, of_core, of_write}
use Rattle.pj_run.proofs.Carried.{write_cut_same}
use Rattle.pj_replay.specs.Settles.{CoreSettling, HandsSome, Settled, SettleStops, SettleStopsBehind, lines_with, outs_with}

-- ---- what settles has one drain, at its end

quiet-both : (ys xs : List Entry) → AreNoDrains xs → AreNoDrains ys → AreNoDrains (xs ++ ys)
quiet-both ys [] p q = q
quiet-both ys (x ∷ xs) p q = (p.0, quiet-both ys xs p.1 q)

gives-at-quiet : (join : ℕ) (tickets : List ℕ) → AreNoDrains (gives_at join tickets)
gives-at-quiet join [] = tt
gives-at-quiet join (ticket ∷ tickets) = (tt, gives-at-quiet join tickets)

gives-quiet : (nodes : List Node) (join n : ℕ) → AreNoDrains (gives_from nodes join n)
gives-quiet nodes join zero = tt
gives-quiet nodes join (suc n) =
    let here = gives_at join (under_way_at nodes join) in quiet-both _ here (gives-at-quiet join (under_way_at nodes join)) (gives-quiet (nodes_from nodes here) (join + 1) n)

probes-quiet : (n join : ℕ) (nodes : List Node) → AreNoDrains (probes_from nodes join n)
probes-quiet zero join nodes = tt
probes-quiet (suc n) join nodes =
    let here = probes_at join (pending_at nodes join) in quiet-both _ here (probes-no-drains join (pending_at nodes join)) (probes-quiet n (join + 1) (nodes_from nodes here))

sweeps-quiet : (places : List Place) (nodes : List Node) → AreNoDrains (sweeps_at nodes places)
sweeps-quiet [] nodes = tt
sweeps-quiet (place ∷ places) nodes =
    let here : List Entry = plain (Swept place.join place.input) ∷ [] in
    let swept : List Node = nodes_from nodes here in
    let after = here ++ probes swept in
    quiet-both _ after (tt, probes-quiet (length swept) 0 swept) (sweeps-quiet places (nodes_from nodes after))

-- what is made before the drain
quiet-before : (hand : HandState) (h : List Entry) → AreNoDrains (unsettled hand h)
quiet-before hand h =
    let nodes = nodes_after hand.core h in
    let given = nodes_after hand.core (h ++ giving hand h) in
    let after = nodes_after hand.core ((h ++ giving hand h) ++ probes given) in
    quiet-both _ (giving hand h) (gives-quiet nodes 0 (length nodes)) (quiet-both _ (probes given) (probes-quiet (length given) 0 given) (sweeps-quiet (places_from 0 after) after))

-- ---- what is not drained behind entries

module _ (a b : HandState) (h : List Entry) (plan : b.core.plan ≡ a.core.plan) (stood : HandStandsFor a h) where
  abbrev trace : Bool
  trace = a.core.plan.trace

  abbrev here : Reached
  here = reached_of trace (nodes_in a.core) h

  left-behind : (es : List Entry) → StandsFor b.core (h ++ es) → b.core.kept.undrained ≡ (reached_from trace here es).undrained
  left-behind es stands =
      stands.stands.1
      ∙ ap (λ (p : RunPlan). (reached_of p.trace (nodes_of p) (h ++ es)).undrained) plan
      ∙ ap (λ (r : Reached). r.undrained) (reached-append trace (begun (nodes_in a.core)) h es)

  pub quiet-outs : (es : List Entry) → StandsFor b.core (h ++ es) → AreNoDrains es → b.core.kept.undrained ≡ outs_with a h es
  quiet-outs es stands quiet =
      left-behind es stands ∙ kept-outs trace here es quiet
      ∙ ap₂ (λ (outs : List Out) (ns : List Node). outs ++ outputs_of trace ns es) (sym stood.stands.stands.1) (reached-nodes trace (begun (nodes_in a.core)) h)

  stopped-outs : (front : List Entry) (stop : Stop) → outs_with a h (front ++ plain (Stopped stop) ∷ []) ≡ outs_with a h front
  stopped-outs front stop =
      ap (λ (outs : List Out). a.core.kept.undrained ++ outs)
      (outputs-append trace (nodes_after a.core h) front (plain (Stopped stop) ∷ [])
      ∙ ap (λ (outs : List Out). outputs_of trace (nodes_after a.core h) front ++ (outs ++ [])) (stop-silent trace (nodes_from (nodes_after a.core h) front) stop)
      ∙ append-nil (outputs_of trace (nodes_after a.core h) front))

  -- a first part of what more entries hand out
  outs-more : (front back : List Entry) → outs_with a h front ++ outputs_of trace (nodes_from (nodes_after a.core h) front) back ≡ outs_with a h (front ++ back)
  outs-more front back =
      append_assoc a.core.kept.undrained (outputs_of trace (nodes_after a.core h) front) (outputs_of trace (nodes_from (nodes_after a.core h) front) back)
      ∙ ap (λ (outs : List Out). a.core.kept.undrained ++ outs) (sym (outputs-append trace (nodes_after a.core h) front back))

  -- ---- settling that stopped

  abbrev entries : List Entry
  entries = settling a h

  -- what a front hands out is the first part
  front-some : (front back : List Entry) (outs : List Out) → entries ≡ front ++ back → outs ≡ outs_with a h front → HandsSome a h entries outs NoMemory
  front-some front back outs parts is = (
    outputs_of trace (nodes_from (nodes_after a.core h) front) back,
    ap (λ (os : List Out). os ++ outputs_of trace (nodes_from (nodes_after a.core h) front) back) is ∙ outs-more front back ∙ ap (λ (es : List Entry). outs_with a h es) (sym parts),
  )

  -- a front of what is made before the drain
  with-drain : (front back : List Entry) → unsettled a h ≡ front ++ back → entries ≡ front ++ (back ++ plain Drain ∷ [])
  with-drain front back q = drain-is-last a h ∙ ap (λ (es : List Entry). es ++ plain Drain ∷ []) q ∙ append_assoc front back (plain Drain ∷ [])

  quiet-front : (front back : List Entry) → unsettled a h ≡ front ++ back → AreNoDrains front
  quiet-front front back q = front-no-drains front back (subst AreNoDrains q (quiet-before a h))

  stopped-front : (front back : List Entry) (stop : Stop) → unsettled a h ≡ front ++ back → StandsFor b.core ((h ++ front) ++ plain (Stopped stop) ∷ []) → b.core.kept.undrained ≡ outs_with a h front
  stopped-front front back stop q stands = quiet-outs (front ++ plain (Stopped stop) ∷ []) (subst (StandsFor b.core) (append_assoc h front (plain (Stopped stop) ∷ [])) stands) (push-no-drains front (plain (Stopped stop)) (quiet-front front back q) tt) ∙ stopped-outs front stop

  -- the core stopped on the way
  pub stops-some : (stop : Stop) (outs : List Out) → outs ≡ b.core.kept.undrained → MakesSome a.core b.core h (unsettled a h) stop → HandsSome a h entries outs stop
  stops-some (Limit node) outs is m = record {
    breaks = record {
      front = m.front;
      back = m.back ++ plain Drain ∷ [];
      parts = with-drain m.front m.back m.parts;
      within = m.within;
      beyond = stops-longer a.core.limit (nodes_in a.core) (h ++ m.front) m.back (plain Drain ∷ []) (Limit node) m.stops;
    };
    outs_are = is ∙ stopped-front m.front m.back (Limit node) m.parts m.stands;
  }
  stops-some NoMemory outs is m =
      front-some m.front (m.back ++ plain Drain ∷ []) outs (with-drain m.front m.back m.parts) (is ∙ stopped-front m.front m.back NoMemory m.parts m.stands)

  -- a probe found no memory
  pub lacks-some : (outs : List Out) → outs ≡ b.core.kept.undrained → MakesFront a b h (giving a h) → HandsSome a h entries outs NoMemory
  lacks-some outs is m =
      let work = working true a.core (h ++ giving a h) in
      let parts : unsettled a h ≡ m.front ++ (m.back ++ work) = ap (λ (es : List Entry). es ++ work) m.parts ∙ append_assoc m.front m.back work in
      front-some m.front ((m.back ++ work) ++ plain Drain ∷ []) outs (with-drain m.front (m.back ++ work) parts) (is ∙ quiet-outs m.front m.stands.stands (quiet-front m.front (m.back ++ work) parts))

-- a hand that was on stops
pub refuses-some : (before : Option Stop) (old mid : HandState) (stop : Stop) (outs : List Out) → before ≡ None → IsSettlingRefused before old mid stop → outs ≡ mid.core.kept.undrained → (h : List Entry) → HandStandsFor old h → HandsSome old h (settling old h) outs stop
refuses-some None old mid stop outs on (inl s) is h stood = stops-some old mid h s.plan stood stop outs is (s.stops h stood)
refuses-some None old mid stop outs on (inr l) is h stood = subst (HandsSome old h (settling old h) outs) (sym l.memory) (lacks-some old mid h l.plan stood outs is (l.makes h stood))
refuses-some (Some s) old mid stop outs on refused is h stood = absurd (cc)

-- ---- the lines of it

module _ (form : Form) (old new : HandState) (outs slice : List Out) (stop : Option Stop) (history : List Entry) (did : Settled old new outs stop) (is : slice ≡ outs) (stood : HandStandsFor old history) where
  abbrev nodes-of-lines : List (List ℕ)
  nodes-of-lines = shown form old.core.plan.nodes slice

  some-front : (os : List Out) (s : Stop) → HandsSome old history (settling old history) os s → (others : List Out) × (os ++ others ≡ outs_with old history (settling old history))
  some-front os (Limit node) some = let b = some.breaks in front-some old old history refl stood b.front b.back os b.parts some.outs_are
  some-front os NoMemory some = some

  first-of : (s : Option Stop) → Settled old new outs s → (others : List Out) × (outs ++ others ≡ outs_with old history (settling old history))
  first-of None settles = ([], append-nil outs ∙ settles.hands history stood)
  first-of (Some s) some = some-front outs s (some history stood)

  lines-first : (others : List Out) × (nodes-of-lines ++ shown form old.core.plan.nodes others ≡ lines_with form old history (settling old history))
  lines-first =
      let f = first-of stop did in
      (f.0, ap (λ (xs : List Out). shown form old.core.plan.nodes xs ++ shown form old.core.plan.nodes f.0) is ∙ (sym (shown-append form old.core.plan.nodes outs f.0) ∙ ap (shown form old.core.plan.nodes) f.1))

  pub settle_leaves : (written : Result (Unit {0}) WriteStop) (result : Result (Unit {0}) TurnStop) (before after : SinkState) → result ≡ end_of written stop → WritesBy write_cut nodes-of-lines before after written
      → WritesBy turn_cut (lines_with form old history (settling old history)) before after result
  settle_leaves written result before after gives wrote = subst (WritesBy turn_cut all before after) (sym gives) (go written stop refl wrote)
    where
      all : List (List ℕ)
      all = lines_with form old history (settling old history)

      whole : (s : Option Stop) → s ≡ None → Settled old new outs s → nodes-of-lines ≡ all
      whole None e settles = ap (shown form old.core.plan.nodes) (is ∙ settles.hands history stood)
      whole (Some s) e settles = absurd (cc)

      go : (w : Result (Unit {0}) WriteStop) (s : Option Stop) → s ≡ stop → WritesBy write_cut nodes-of-lines before after w → WritesBy turn_cut all before after (end_of w s)
      go (Ok u) None e wrote = wrote ∙ ap (λ (ls : List (List ℕ)). before.written ++ flat ls) (whole stop (sym e) did)
      go (Err why) None e wrote = subst (λ (cut : Cut). Leaves cut all before.written after.written) (sym (write_cut_same why)) (stop_first (write_cut why) nodes-of-lines (shown form old.core.plan.nodes lines-first.0) all before.written after.written wrote lines-first.1)
      go (Ok u) (Some s) e wrote = first_written (turn_cut (of_core s)) nodes-of-lines (shown form old.core.plan.nodes lines-first.0) all before.written after.written wrote lines-first.1
      go (Err Failed) (Some s) e wrote = stop_first anywhere nodes-of-lines (shown form old.core.plan.nodes lines-first.0) all before.written after.written wrote lines-first.1
      go (Err WriteMemory) (Some s) e wrote = stop_first between nodes-of-lines (shown form old.core.plan.nodes lines-first.0) all before.written after.written wrote lines-first.1

-- ---- how it ends

module _ (form : Form) (old new : HandState) (outs slice : List Out) (is : slice ≡ outs) (before after : SinkState) where
  write-ends : (why : WriteStop) (h : List Entry) → SettleStops (of_write why) form old h before after
  write-ends Failed h = tt
  write-ends WriteMemory h = tt

  core-ends : (s : Stop) (h : List Entry) → HandsSome old h (settling old h) outs s → (IsTrue after.told → after.written ≡ before.written ++ flat (shown form old.core.plan.nodes slice)) → SettleStops (of_core s) form old h before after
  core-ends (Limit node) h some written = record { breaks = some.breaks; written = λ t. written t ∙ ap (λ (os : List Out). before.written ++ flat (shown form old.core.plan.nodes os)) (is ∙ some.outs_are) }
  core-ends NoMemory h some written = tt

  cut-ends : (s : Stop) (h : List Entry) → HandsSome old h (settling old h) outs s → (IsTrue after.told → FrontOf (flat (shown form old.core.plan.nodes slice)) before.written after.written) → CoreSettling s form old h before after
  cut-ends (Limit node) h some written = record { breaks = some.breaks; written = λ t. subst (λ (os : List Out). FrontOf (flat (shown form old.core.plan.nodes os)) before.written after.written) (is ∙ some.outs_are) (written t) }
  cut-ends NoMemory h some written = tt

  pub settle_stops : (stop : Option Stop) (written : Result (Unit {0}) WriteStop) (result : Result (Unit {0}) TurnStop) → Settled old new outs stop → result ≡ end_of written stop
      → (IsTrue after.told → WritesBy write_cut (shown form old.core.plan.nodes slice) before after written) → IfErr result (λ s. SettleStopsBehind s form old before after)
  settle_stops stop written result did gives wrote = subst (λ (r : Result (Unit {0}) TurnStop). IfErr r (λ s. SettleStopsBehind s form old before after)) (sym gives) (go stop written did wrote)
    where
      go : (g : Option Stop) (w : Result (Unit {0}) WriteStop) → Settled old new outs g → (IsTrue after.told → WritesBy write_cut (shown form old.core.plan.nodes slice) before after w) → IfErr (end_of w g) (λ s. SettleStopsBehind s form old before after)
      go None (Ok u) did wrote = tt
      go None (Err why) did wrote = λ h stood. write-ends why h
      go (Some s) (Ok u) did wrote = λ h stood. core-ends s h (did h stood) wrote
      go (Some s) (Err Failed) did wrote = λ h stood. cut-ends s h (did h stood) wrote
      go (Some s) (Err WriteMemory) did wrote = λ h stood. tt
