-- Behind the steps of a script: the hand is settled.
use Rattle.std.proofs.Common.{◌≡◌, ◌≤◌, ℕ, zero, suc, ◌+◌, true, List, [], ◌∷◌, ◌++◌, length, map, IsTrue, refl, ap, ap₂, sym, ◌∙◌, append_assoc, append-nil, subst, arith}
use Rattle.pj_io.specs.Causes.{Rose}
use Rattle.pj_io.specs.States.{SinkState}
use Rattle.pj_pattern.specs.declared.element.Element.{Element}
use Rattle.pj_pattern.specs.Elements.{rows_of}
use Rattle.pj_plan.specs.Nodes.{streams_in}
use Rattle.pj_events.specs.declared.events.Entry.{Entry}
use Rattle.pj_events.specs.declared.events.Event.TheVariants.{Drain}
use Rattle.pj_events.specs.declared.events.Out.{Out}
use Rattle.pj_events.specs.declared.events.Stop.{Stop}
use Rattle.pj_events.specs.declared.events.Stop.TheVariants.{Limit as CoreLimit, NoMemory as CoreMemory}
use Rattle.pj_events.specs.Plan.{Node}
use Rattle.pj_events.specs.History.{nodes_from}
use Rattle.pj_events.specs.Limits.{BeginsBeyond, ReachesLimit, StaysWithin}
use Rattle.pj_events.specs.OneThread.{Turn, in_rounds, places_from, plain, probes, sweeps_at, turns_entries}
use Rattle.pj_events.specs.Outcomes.{elements_of as arrived_at, elements_out, outputs_of as handed_out}
use Rattle.pj_laws.proofs.Histories.{nodes-append, outputs-append}
use Rattle.pj_laws.proofs.Limits.{within-append}
use Rattle.pj_laws.proofs.OneRun.{elements-append}
use Rattle.pj_laws.proofs.OneThreadAnswer.{rounds-go-on}
use Rattle.pj_laws.proofs.Steps.{elements-append as outs-elements}
use Rattle.pj_core.specs.Plans.{RunPlan, nodes_of}
use Rattle.pj_feed.specs.Feeds.{FeedState, AllTold, feed_left, feeds_left}
use Rattle.pj_hand.specs.Hands.{HandState, HandStandsFor}
use Rattle.pj_hand.specs.Settling.{settling}
use Rattle.pj_report.specs.declared.writer.Form.{Form}
use Rattle.pj_report.specs.declared.writer.ResultWriter.{ResultWriter}
use Rattle.pj_report.specs.Forms.{shown, taken_so_far}
use Rattle.pj_report.specs.Written.{Cut, FrontOf, Leaves, anywhere, flat}
use Rattle.pj_report.proofs.Forms.{shown-append}
use Rattle.pj_report.proofs.LinesWritten.{stop_among, stop_then, written_then}
use Rattle.pj_run.specs.declared.stops.TurnStop.{TurnStop}
use Rattle.pj_run.specs.declared.stops.TurnStop.TheVariants.{Limit as TurnLimit, WriteFailed as TurnFailed, NoMemory as TurnMemory, Cut as TurnCut}
use Rattle.pj_run.specs.Cuts.{run_cut, turn_cut}
use Rattle.pj_run.specs.Ends.{lines_until}
use Rattle.pj_run.specs.Runs.{run_nodes}
use Rattle.pj_run.specs.Stops.{of_turn}
use Rattle.pj_run.proofs.Arrivals.{none-from, none-swept}
use Rattle.pj_run.proofs.Carried.{turn_cut_same}
use Rattle.pj_run.proofs.Running.{reached}
use Rattle.pj_script.specs.Playing.{gives, gives_at, gives_from, settled, under_way_at}
use Rattle.pj_run.specs.Goes.{BringsAll, CoreCause, IsGoing, RunStart, StopCause, StopLeaves, whole_of}
use Rattle.pj_replay.specs.Playing.{Stage, lefts}
use Rattle.pj_replay.specs.Plays.{IsPlaying}
use Rattle.pj_replay.specs.Settles.{BreaksAt, CoreSettling, SettleStops, SettlesInto, lines_with, outs_with}
use Rattle.pj_run.proofs.Going.{shown_until}

-- ---- settling brings nothing to a stream

none-given-at : (s join : ℕ) (tickets : List ℕ) → arrived_at s (gives_at join tickets) ≡ []
none-given-at s join [] = refl
none-given-at s join (ticket ∷ tickets) = none-given-at s join tickets

none-given : (s : ℕ) (nodes : List Node) (join n : ℕ) → arrived_at s (gives_from nodes join n) ≡ []
none-given s nodes join zero = refl
none-given s nodes join (suc n) =
    let here = gives_at join (under_way_at nodes join) in
    elements-append s here (gives_from (nodes_from nodes here) (join + 1) n)
    ∙ ap₂ (λ (xs ys : List Element). xs ++ ys) (none-given-at s join (under_way_at nodes join)) (none-given s (nodes_from nodes here) (join + 1) n)

none-settled : (s : ℕ) (nodes : List Node) → arrived_at s (settled nodes) ≡ []
none-settled s nodes =
    let given = nodes_from nodes (gives nodes) in
    let probed = probes given in
    let after = nodes_from given probed in
    let sweeps = sweeps_at after (places_from 0 after) in
    elements-append s (gives nodes) ((probed ++ sweeps) ++ plain Drain ∷ [])
    ∙ ap₂ (λ (xs ys : List Element). xs ++ ys) (none-given s nodes 0 (length nodes))
    (elements-append s (probed ++ sweeps) (plain Drain ∷ [])
    ∙ ap (λ (xs : List Element). xs ++ []) (elements-append s probed sweeps ∙ ap₂ (λ (xs ys : List Element). xs ++ ys) (none-from s (length given) 0 given) (none-swept s after (places_from 0 after))))

module _ (run : RunStart) (h : List Entry) (s : Stage) (p : IsPlaying run h s []) where
  abbrev nodes : List Node
  nodes = nodes_from (run_nodes run.job) h

  abbrev more : List Entry
  more = settled nodes

  abbrev turns : List Turn
  turns = in_rounds (lefts s)

  settling-is : settling s.hand h ≡ more
  settling-is = ap (λ (q : RunPlan). settled (nodes_from (nodes_of q) h)) p.plan

  whole-is : AllTold run.feeds → whole_of run ≡ h ++ (more ++ turns_entries true (nodes_from nodes more) turns)
  whole-is told = p.rest told

  -- what settling hands out
  outs-are : p.given ++ outs_with s.hand h more ≡ handed_out run.job.trace (run_nodes run.job) (h ++ more)
  outs-are =
      sym (append_assoc p.given s.hand.core.kept.undrained (handed_out s.hand.core.plan.trace (nodes_from (nodes_of s.hand.core.plan) h) more))
      ∙ ap (λ (os : List Out). os ++ handed_out s.hand.core.plan.trace (nodes_from (nodes_of s.hand.core.plan) h) more) p.all
      ∙ ap (λ (q : RunPlan). handed_out run.job.trace (run_nodes run.job) h ++ handed_out q.trace (nodes_from (nodes_of q) h) more) p.plan
      ∙ sym (outputs-append run.job.trace (run_nodes run.job) h more)

  form-here : s.gathered.results.form ≡ run.job.form
  form-here = ap (λ (w : ResultWriter). w.form) p.taken

  lines-as : (es : List Entry) → lines_with s.gathered.results.form s.hand h es ≡ shown run.job.form run.job.nodes (outs_with s.hand h es)
  lines-as es = ap₂ (λ (f : Form) (q : RunPlan). shown f q.nodes (outs_with s.hand h es)) form-here p.plan

  settled-lines : shown run.job.form run.job.nodes p.given ++ lines_with s.gathered.results.form s.hand h more ≡ shown_until run.job (h ++ more)
  settled-lines =
      ap (λ (ls : List (List ℕ)). shown run.job.form run.job.nodes p.given ++ ls) (lines-as more)
      ∙ sym (shown-append run.job.form run.job.nodes p.given (outs_with s.hand h more)) ∙ ap (shown run.job.form run.job.nodes) outs-are

  -- ---- it was settled

  rest-is : (at : ℕ) → at ≡ 0 → (q : AllTold run.feeds) → (h ++ more) ++ turns_entries true (nodes_from (run_nodes run.job) (h ++ more)) (feeds_left (streams_in run.job.nodes) s.feeds at) ≡ whole_of run
  rest-is at first told =
      ap₂ (λ (ns : List Node) (ts : List Turn). (h ++ more) ++ turns_entries true ns ts) (nodes-append (run_nodes run.job) h more)
      (ap (feeds_left (streams_in run.job.nodes) s.feeds) first ∙ sym (rounds-go-on (map (feed_left (streams_in run.job.nodes)) s.feeds))
      ∙ ap (λ (q : RunPlan). in_rounds (map (feed_left (streams_in q.nodes)) s.feeds)) (sym p.plan))
      ∙ append_assoc h more (turns_entries true (nodes_from nodes more) turns) ∙ sym (whole-is told)

  module _ (hand' : HandState) (results' : ResultWriter) (sink' : SinkState) (at : ℕ) (first : at ≡ 0) (did : SettlesInto s.hand hand' s.gathered.results results') (form : results'.form ≡ s.gathered.results.form) (tells : IsTrue sink'.told → IsTrue s.sink.told)
      (later : s.sink.faults ≤ sink'.faults)
      (wrote : IsTrue sink'.told → (g : List Entry) → HandStandsFor s.hand g → sink'.written ≡ s.sink.written ++ flat (lines_with s.gathered.results.form s.hand g (settling s.hand g))) where
    pub settled-going : (AllTold run.feeds → BringsAll run) → IsGoing run (h ++ more) hand'.core s.feeds at (record { results = results'; accepted = s.gathered.accepted }) sink'
    settled-going brings = record {
      plan = did.settles.makes.plan ∙ p.plan;
      limit = did.settles.makes.limit ∙ p.limit;
      form = form ∙ form-here;
      asked = p.asked;
      same = p.same;
      later = omega (arith, p.later, later);
      made = λ told. record {
        stands = (subst (λ (es : List Entry). HandStandsFor hand' (h ++ es)) settling-is (did.settles.makes.stands h p.follows.stands)).stands;
        rest = rest-is at first told;
        brings = brings told;
        within = within-append run.job.limit (run_nodes run.job) [] h more p.within
            (subst (λ (n : ℕ). StaysWithin n (run_nodes run.job) h more) p.limit (subst (λ (q : RunPlan). StaysWithin s.hand.core.limit (nodes_of q) h more) p.plan
            (subst (λ (es : List Entry). StaysWithin s.hand.core.limit (nodes_of s.hand.core.plan) h es) settling-is (did.settles.makes.within h p.follows.stands))));
        taken = did.taken run.job.form (elements_out p.given) p.taken
            ∙ ap (taken_so_far run.job.form) (sym (outs-elements p.given did.outs) ∙ ap elements_out (ap (λ (os : List Out). p.given ++ os) (did.settles.hands h p.follows.stands ∙ ap (outs_with s.hand h) settling-is) ∙ outs-are));
      };
      kept = λ told asked k lt.
          p.kept asked k lt ∙ ap rows_of (sym (elements-append k h more ∙ ap (λ (es : List Element). arrived_at k h ++ es) (none-settled k nodes) ∙ append-nil (arrived_at k h)));
      written = λ told t.
          written_then (shown run.job.form run.job.nodes p.given) (lines_with s.gathered.results.form s.hand h more) run.sink.written s.sink.written sink'.written (p.written (tells t))
          (wrote t h p.follows.stands ∙ ap (λ (es : List Entry). s.sink.written ++ flat (lines_with s.gathered.results.form s.hand h es)) settling-is)
          ∙ ap (λ (ls : List (List ℕ)). run.sink.written ++ flat ls) settled-lines;
    }

  -- ---- settling stopped

  module _ (sink' : SinkState) (stop : TurnStop) (tells : IsTrue sink'.told → IsTrue s.sink.told) (later : s.sink.faults ≤ sink'.faults) where
    abbrev rest-lines : List (List ℕ)
    rest-lines = shown run.job.form run.job.nodes (handed_out run.job.trace (nodes_from (run_nodes run.job) (h ++ more)) (turns_entries true (nodes_from nodes more) turns))

    pub settle-lines : (IsTrue sink'.told → (g : List Entry) → HandStandsFor s.hand g → Leaves (turn_cut stop) (lines_with s.gathered.results.form s.hand g (settling s.hand g)) s.sink.written sink'.written)
        → AllTold run.feeds → IsTrue sink'.told → Leaves (run_cut (of_turn stop)) (shown_until run.job (whole_of run)) run.sink.written sink'.written
    settle-lines wrote told t =
        subst (λ (cut : Cut). Leaves cut (shown_until run.job (whole_of run)) run.sink.written sink'.written) (sym (turn_cut_same stop))
        (stop_among (turn_cut stop) (shown run.job.form run.job.nodes p.given) (lines_with s.gathered.results.form s.hand h more) rest-lines (shown_until run.job (whole_of run)) run.sink.written s.sink.written sink'.written (p.written (tells t))
        (subst (λ (es : List Entry). Leaves (turn_cut stop) (lines_with s.gathered.results.form s.hand h es) s.sink.written sink'.written) settling-is (wrote t h p.follows.stands))
        (ap (λ (ls : List (List ℕ)). ls ++ rest-lines) settled-lines
        ∙ sym (shown-append run.job.form run.job.nodes (handed_out run.job.trace (run_nodes run.job) (h ++ more)) (handed_out run.job.trace (nodes_from (run_nodes run.job) (h ++ more)) (turns_entries true (nodes_from nodes more) turns)))
        ∙ ap (shown run.job.form run.job.nodes) (sym (outputs-append run.job.trace (run_nodes run.job) (h ++ more) (turns_entries true (nodes_from nodes more) turns)))
        ∙ ap (λ (es : List Entry). shown_until run.job es) (append_assoc h more (turns_entries true (nodes_from nodes more) turns) ∙ sym (whole-is told))))

    -- the limit that was met
    met : (node : ℕ) (b : BreaksAt s.hand h (settling s.hand h) node) → AllTold run.feeds → (r : ReachesLimit run.job.limit (run_nodes run.job) (whole_of run) node) × (r.front ≡ h ++ b.front)
    met node b told =
        reached run.job.limit (run_nodes run.job) (whole_of run) h b.front b.back (turns_entries true (nodes_from nodes more) turns) node
        (whole-is told ∙ ap (λ (es : List Entry). h ++ (es ++ turns_entries true (nodes_from nodes more) turns)) (sym settling-is ∙ b.parts)) p.within
        (subst (λ (n : ℕ). StaysWithin n (run_nodes run.job) h b.front) p.limit (subst (λ (q : RunPlan). StaysWithin s.hand.core.limit (nodes_of q) h b.front) p.plan b.within))
        (subst (λ (n : ℕ). BeginsBeyond n (run_nodes run.job) (h ++ b.front) b.back node) p.limit (subst (λ (q : RunPlan). BeginsBeyond s.hand.core.limit (nodes_of q) (h ++ b.front) b.back node) p.plan b.beyond))

    -- the lines of what came before it
    lines-met : (front : List Entry) → shown run.job.form run.job.nodes p.given ++ lines_with s.gathered.results.form s.hand h front ≡ shown_until run.job (h ++ front)
    lines-met front =
        ap (λ (ls : List (List ℕ)). shown run.job.form run.job.nodes p.given ++ ls) (lines-as front)
        ∙ sym (shown-append run.job.form run.job.nodes p.given (outs_with s.hand h front)) ∙ ap (shown run.job.form run.job.nodes) (outs-front front)
      where
        outs-front : (es : List Entry) → p.given ++ outs_with s.hand h es ≡ handed_out run.job.trace (run_nodes run.job) (h ++ es)
        outs-front es =
            sym (append_assoc p.given s.hand.core.kept.undrained (handed_out s.hand.core.plan.trace (nodes_from (nodes_of s.hand.core.plan) h) es))
            ∙ ap (λ (os : List Out). os ++ handed_out s.hand.core.plan.trace (nodes_from (nodes_of s.hand.core.plan) h) es) p.all
            ∙ ap (λ (q : RunPlan). handed_out run.job.trace (run_nodes run.job) h ++ handed_out q.trace (nodes_from (nodes_of q) h) es) p.plan
            ∙ sym (outputs-append run.job.trace (run_nodes run.job) h es)

    pub settle-ends : (st : TurnStop) → (feeds : List FeedState) → SettleStops st s.gathered.results.form s.hand h s.sink sink' → AllTold run.feeds → IsTrue sink'.told → StopLeaves (of_turn st) run feeds sink'.written
    unfolding met
    settle-ends (TurnLimit node) feeds e told t =
        let r = met node e.breaks told in
        record {
          reaches = r.0;
          written = written_then (shown run.job.form run.job.nodes p.given) (lines_with s.gathered.results.form s.hand h e.breaks.front) run.sink.written s.sink.written sink'.written (p.written (tells t)) (e.written t)
              ∙ ap (λ (ls : List (List ℕ)). run.sink.written ++ flat ls) (lines-met e.breaks.front) ∙ ap (λ (es : List Entry). run.sink.written ++ lines_until run.job es) (sym r.1);
        }
    settle-ends TurnFailed feeds e told t = tt
    settle-ends TurnMemory feeds e told t = tt
    settle-ends (TurnCut (CoreLimit node)) feeds e told t =
        let r = met node e.breaks told in
        record {
          reaches = r.0;
          written = subst (λ (es : List Entry). FrontOf (lines_until run.job es) run.sink.written sink'.written) (sym r.1)
              (subst (λ (ls : List (List ℕ)). FrontOf (flat ls) run.sink.written sink'.written) (lines-met e.breaks.front)
              (stop_then anywhere (shown run.job.form run.job.nodes p.given) (lines_with s.gathered.results.form s.hand h e.breaks.front) run.sink.written s.sink.written sink'.written (p.written (tells t)) (e.written t)));
        }
    settle-ends (TurnCut CoreMemory) feeds e told t = tt

    core-why : (st : Stop) → CoreSettling st s.gathered.results.form s.hand h s.sink sink' → AllTold run.feeds → CoreCause st run
    core-why (CoreLimit node) e told = (met node e.breaks told).0
    core-why CoreMemory e told = tt

    pub settle-causes : (st : TurnStop) (feeds : List FeedState) → SettleStops st s.gathered.results.form s.hand h s.sink sink' → (st ≡ TurnFailed → Rose s.sink.faults sink'.faults) → ((why : Stop) → st ≡ TurnCut why → Rose s.sink.faults sink'.faults) → StopCause (of_turn st) run feeds sink'
    settle-causes (TurnLimit node) feeds e rose cut = λ told. (met node e.breaks told).0
    settle-causes TurnFailed feeds e rose cut = let r = rose refl in let l = p.later in omega (arith, r, l)
    settle-causes TurnMemory feeds e rose cut = tt
    settle-causes (TurnCut why) feeds e rose cut = (let r = cut why refl in let l = p.later in omega (arith, r, l), core-why why e)
