-- Replays, step by step.
use Rattle.std.proofs.Common.{◌≡◌, ◌≤◌, ℕ, zero, suc, ◌+◌, ◌<◌, ◌^◌, true, List, [], ◌∷◌, ◌++◌, length, get_or, drop, take, Option, Some, None, is_some, if◌then◌else◌, IsTrue, refl, ap, ap₂, sym, ◌∙◌, append_assoc, append-nil, subst, arith, zero-add, inl, inr}
use Rattle.std.specs.Prelude.{◌⊎◌}
use Rattle.std.specs.List.{slice_get}
use Rattle.pj_io.specs.Causes.{Rose}
use Rattle.pj_value.specs.declared.values.Value.{Value}
use Rattle.pj_shape.specs.declared.columns.Column.{Column}
use Rattle.pj_pattern.specs.Elements.{rows_of}
use Rattle.pj_pattern.proofs.Elements.{rows_of-append}
use Rattle.pj_plan.specs.declared.node.PlanNode.{PlanNode}
use Rattle.pj_plan.specs.Nodes.{stream_columns, streams_in}
use Rattle.pj_events.specs.declared.events.Entry.{Entry}
use Rattle.pj_events.specs.declared.events.Event.TheVariants.{Arrive as Arrives}
use Rattle.pj_events.specs.declared.events.Out.{Out}
use Rattle.pj_events.specs.Plan.{Node}
use Rattle.pj_events.specs.History.{nodes_from}
use Rattle.pj_events.specs.Limits.{ReachesLimit}
use Rattle.pj_events.specs.OneThread.{Turn, arrival_of}
use Rattle.pj_events.specs.Outcomes.{elements_of as arrived_at, elements_out, goes_beyond, outputs_of as handed_out}
use Rattle.pj_laws.proofs.Histories.{nodes-append, outputs-append}
use Rattle.pj_laws.proofs.Limits.{within-append}
use Rattle.pj_laws.proofs.OneRun.{elements-append}
use Rattle.pj_laws.proofs.Steps.{elements-append as outs-elements}
use Rattle.pj_core.specs.Cores.{nodes_after}
use Rattle.pj_core.specs.Plans.{RunPlan, nodes_of}
use Rattle.pj_intake.specs.declared.intake.IntakeStop.TheVariants.{ReadFault as IntakeFault, ByteLimit}
use Rattle.pj_feed.specs.Feeds.{FeedState, AllTold, AreSameFeeds, all_accepted, bytes_of, count_of, fed_elements, files_of}
use Rattle.pj_feed.proofs.AllFeeds.{all_same_then, bytes_of_feed, files_still, one_of, same_at, told_at, told_still}
use Rattle.pj_feed.proofs.FeedFacts.{begins_with, counted, those_so_far}
use Rattle.pj_feed.proofs.Turned.{has_left}
use Rattle.pj_report.specs.declared.stops.WriteStop.{WriteStop}
use Rattle.pj_report.specs.declared.stops.WriteStop.TheVariants.{Failed, NoMemory as WriteMemory}
use Rattle.pj_report.specs.declared.writer.Form.{Form}
use Rattle.pj_report.specs.declared.writer.ResultWriter.{ResultWriter}
use Rattle.pj_report.specs.Forms.{shown, taken_so_far}
use Rattle.pj_report.specs.Written.{Cut, Leaves, anywhere, between, flat, write_cut}
use Rattle.pj_report.proofs.Forms.{shown-append}
use Rattle.pj_report.proofs.LinesWritten.{first_written, stop_among, written_then}
use Rattle.pj_run.specs.declared.stops.RunStop.{RunStop}
use Rattle.pj_run.specs.declared.stops.RunStop.TheVariants.{ReadFault, TooLarge, Limit, Refused, WriteFailed, NoMemory, Cut as RunCut, CutRead, CutLarge, CutRefused}
use Rattle.pj_run.specs.declared.stops.FeedWhy.{FeedWhy}
use Rattle.pj_run.specs.declared.stops.FeedWhy.TheVariants.{Intake}
use Rattle.pj_run.specs.Runs.{plan_run, run_nodes}
use Rattle.pj_run.specs.Stops.{of_turn, of_write}
use Rattle.pj_script.specs.declared.step.ScriptStep.{ScriptStep}
use Rattle.pj_script.specs.Reading.{AreStepsOf, IsStepOf}
use Rattle.std.proofs.lemmas.List.{drop_all, drop_more}
use Rattle.pj_script.specs.Playing.{Played, arrival_if, behind, ending_of, left_behind, listed, play, refused_at, step_entry}
use Rattle.pj_run.specs.Cuts.{run_cut}
use Rattle.pj_run.specs.PlanNames.{HasShortNames}
use Rattle.pj_run.specs.Whole.{WroteLines}
use Rattle.pj_run.proofs.WholeLaws.{leaves_lines, leaves_wrote, lines_wrote, shown_are_lines, wrote_then}
use Rattle.pj_run.specs.Goes.{RunStart, refused_of, whole_of}
use Rattle.pj_replay.specs.Playing.{DrainStops, FeedFails, IsReady, MakesEntry, Stage, StepMade, StepSkipped, StepStops, StepWhy, entry_of, lefts}
use Rattle.pj_replay.specs.Plays.{ArrivesNext, HasLeft, HasStopped, IsPlaying, IsWholeSoFar, StopsBehind, StopsStanding, remaining}
use Rattle.pj_run.proofs.Going.{shown_until}
use Rattle.pj_replay.proofs.Made.{left-at}

-- ---- one step of the definition

module _ (nodes : List Node) (left : List (List Turn)) (line : ℕ) (step : ScriptStep) (rest : List (ℕ × ScriptStep)) where
  abbrev with-entry : Option Entry → Played
  with-entry o = if is_some o then behind (listed o) (play (nodes_from nodes (listed o)) (left_behind left step) rest) else refused_at line left

  pub remaining-step : (entry : Entry) → step_entry nodes left step ≡ Some entry → remaining nodes left ((line, step) ∷ rest) ≡ entry ∷ remaining (nodes_from nodes (entry ∷ [])) (left_behind left step) rest
  remaining-step entry is = ap (λ (o : Option Entry). (with-entry o).entries ++ ending_of nodes (with-entry o)) is

  pub refused-step : (entry : Entry) → step_entry nodes left step ≡ Some entry → (play nodes left ((line, step) ∷ rest)).refused ≡ (play (nodes_from nodes (entry ∷ [])) (left_behind left step) rest).refused
  refused-step entry is = ap (λ (o : Option Entry). (with-entry o).refused) is

  pub remaining-none : step_entry nodes left step ≡ None → remaining nodes left ((line, step) ∷ rest) ≡ []
  remaining-none is = ap (λ (o : Option Entry). (with-entry o).entries ++ ending_of nodes (with-entry o)) is

  pub refused-none : step_entry nodes left step ≡ None → (play nodes left ((line, step) ∷ rest)).refused ≡ Some line
  refused-none is = ap (λ (o : Option Entry). (with-entry o).refused) is

-- ---- a step of a replay

module _ (run : RunStart) (h : List Entry) (s : Stage) (line : ℕ) (step : ScriptStep) (rest : List (ℕ × ScriptStep)) (p : IsPlaying run h s ((line, step) ∷ rest)) (ready : IsReady s) where
  abbrev nodes : List Node
  nodes = nodes_from (run_nodes run.job) h

  told-here : AllTold run.feeds → AllTold s.feeds
  told-here told = told_still run.feeds s.feeds p.same told

  -- the step's entry, in the words of the replay
  entry-here : (o : Option Entry) → entry_of s h step ≡ o → step_entry nodes (lefts s) step ≡ o
  entry-here o is = ap (λ (q : RunPlan). step_entry (nodes_from (nodes_of q) h) (lefts s) step) (sym p.plan) ∙ is

  -- ---- it was made

  module _ (s' : Stage) (m : StepMade s s' step) where
    mk : MakesEntry s s' step m.outs h
    mk = m.makes h p.follows

    abbrev now : List Entry
    now = h ++ mk.entry ∷ []

    all-now : (p.given ++ m.outs) ++ s'.hand.core.kept.undrained ≡ handed_out run.job.trace (run_nodes run.job) now
    all-now =
        append_assoc p.given m.outs s'.hand.core.kept.undrained ∙ ap (λ (os : List Out). p.given ++ os) mk.hands
        ∙ sym (append_assoc p.given s.hand.core.kept.undrained (handed_out s.hand.core.plan.trace (nodes_after s.hand.core h) (mk.entry ∷ [])))
        ∙ ap (λ (os : List Out). os ++ handed_out s.hand.core.plan.trace (nodes_after s.hand.core h) (mk.entry ∷ [])) p.all
        ∙ ap (λ (q : RunPlan). handed_out run.job.trace (run_nodes run.job) h ++ handed_out q.trace (nodes_from (nodes_of q) h) (mk.entry ∷ [])) p.plan
        ∙ sym (outputs-append run.job.trace (run_nodes run.job) h (mk.entry ∷ []))

    form-here : s.gathered.results.form ≡ run.job.form
    form-here = ap (λ (w : ResultWriter). w.form) p.taken

    pub playing-more : (now : List Entry) × IsPlaying run now s' rest
    unfolding mk
    playing-more = (
      now,
      record {
        plan = m.plan ∙ p.plan;
        limit = m.limit ∙ p.limit;
        same = all_same_then run.feeds s.feeds s'.feeds p.same m.same;
        later = omega (arith, p.later, m.later);
        follows = mk.follows;
        within = within-append run.job.limit (run_nodes run.job) [] h (mk.entry ∷ []) p.within
            (subst (λ (n : ℕ). goes_beyond n (run_nodes run.job) h mk.entry.event ≡ None) p.limit (subst (λ (q : RunPlan). goes_beyond s.hand.core.limit (nodes_of q) h mk.entry.event ≡ None) p.plan mk.within), tt);
        given = p.given ++ m.outs;
        all = all-now;
        taken = m.takes run.job.form (elements_out p.given) p.taken ∙ ap (taken_so_far run.job.form) (sym (outs-elements p.given m.outs));
        written = λ t.
            written_then (shown run.job.form run.job.nodes p.given) (shown run.job.form run.job.nodes m.outs) run.sink.written s.sink.written s'.sink.written (p.written (m.tells t))
            (subst (λ (f : Form). s'.sink.written ≡ s.sink.written ++ flat (shown f run.job.nodes m.outs)) form-here
            (subst (λ (q : RunPlan). s'.sink.written ≡ s.sink.written ++ flat (shown s.gathered.results.form q.nodes m.outs)) p.plan (m.written t)))
            ∙ ap (λ (ls : List (List ℕ)). run.sink.written ++ flat ls) (sym (shown-append run.job.form run.job.nodes p.given m.outs));
        asked = m.asked ∙ p.asked;
        kept = λ asked k lt.
            let was = sym m.asked ∙ asked in
            let many = ready.lists was in
            let count = ap (λ (q : RunPlan). length (streams_in q.nodes)) p.plan in
            mk.kept was k (omega (arith, lt, many, count))
            ∙ (ap (λ (rs : List (List Value)). rs ++ rows_of (arrived_at k (mk.entry ∷ []))) (p.kept was k lt)
            ∙ (sym (rows_of-append (arrived_at k h) (arrived_at k (mk.entry ∷ []))) ∙ ap rows_of (sym (elements-append k h (mk.entry ∷ [])))));
        script = p.script;
        rest = λ told.
            let t = mk.told (told-here told) in
            p.rest told ∙ ap (λ (es : List Entry). h ++ es) (remaining-step nodes (lefts s) line step rest mk.entry (entry-here (Some mk.entry) t.0))
            ∙ sym (append_assoc h (mk.entry ∷ []) (remaining (nodes_from nodes (mk.entry ∷ [])) (left_behind (lefts s) step) rest))
            ∙ ap₂ (λ (ns : List Node) (ls : List (List Turn)). now ++ remaining ns ls rest) (sym (nodes-append (run_nodes run.job) h (mk.entry ∷ []))) (sym t.1);
        refused = λ told.
            let t = mk.told (told-here told) in
            p.refused told ∙ refused-step nodes (lefts s) line step rest mk.entry (entry-here (Some mk.entry) t.0)
            ∙ ap₂ (λ (ns : List Node) (ls : List (List Turn)). (play ns ls rest).refused) (sym (nodes-append (run_nodes run.job) h (mk.entry ∷ []))) (sym t.1);
      },
    )

  -- ---- whole lines, whatever the files tell

  -- what was written until now
  wrote-so-far : HasShortNames run.job.nodes → IsTrue s.sink.told → WroteLines run.sink.written s.sink.written
  wrote-so-far names t = lines_wrote (shown run.job.form run.job.nodes p.given) run.sink.written s.sink.written (shown_are_lines run.job.form run.job.nodes p.given names) (p.written t)

  -- where nothing was written since
  whole-still : (stop : RunStop) (s' : Stage) → (IsTrue s'.sink.told → IsTrue s.sink.told) → (IsTrue s'.sink.told → s'.sink.written ≡ s.sink.written) → IsWholeSoFar stop run s'.sink
  whole-still stop s' tells still names t = leaves_wrote (run_cut stop) run.sink.written s'.sink.written (subst (WroteLines run.sink.written) (sym (still t)) (wrote-so-far names (tells t)))

  -- ---- it is not enabled

  form-now : s.gathered.results.form ≡ run.job.form
  form-now = ap (λ (w : ResultWriter). w.form) p.taken

  pub step-refused : (s' : Stage) → StepSkipped s s' step → HasStopped (Refused line) run s'
  step-refused s' k = record {
    plan = ap (λ hand. hand.core.plan) k.hand ∙ p.plan;
    form = ap (λ gathered. gathered.results.form) k.gathered ∙ form-now;
    same = subst (AreSameFeeds run.feeds) (sym k.feeds) p.same;
    later = subst (λ sink. run.sink.faults ≤ sink.faults) (sym k.sink) p.later;
    cause = (p.script, line-is);
    whole = whole-still (Refused line) s' (subst (λ sink. IsTrue sink.told) k.sink) (λ t. ap (λ sink. sink.written) k.sink);
    stops = record {
      front = h;
      back = [];
      parts = λ told. append-nil h ∙ sym (whole-is told);
      within = p.within;
      script = p.script;
      given = p.given;
      all = ap (λ hand. p.given ++ hand.core.kept.undrained) k.hand ∙ p.all;
      written = λ t. subst (λ sink. sink.written ≡ run.sink.written ++ flat (shown run.job.form run.job.nodes p.given)) (sym k.sink) (p.written (subst (λ sink. IsTrue sink.told) k.sink t));
      behind = λ told. (whole-is told, line-is told);
    };
  }
    where
      none : AllTold run.feeds → step_entry nodes (lefts s) step ≡ None
      none told = entry-here None (k.none (told-here told) h p.follows)

      whole-is : AllTold run.feeds → whole_of run ≡ h
      whole-is told = p.rest told ∙ ap (λ (es : List Entry). h ++ es) (remaining-none nodes (lefts s) line step rest (none told)) ∙ append-nil h

      line-is : AllTold run.feeds → refused_of run ≡ Some line
      line-is told = p.refused told ∙ refused-none nodes (lefts s) line step rest (none told)

  -- ---- it stopped

  -- it stopped behind the history, before the step's entry
  standing : (stop : RunStop) (s' : Stage) (run-stop : RunStop) → StepStops run-stop s s' step → (AllTold run.feeds → StopsBehind stop run h s'.feeds) → StopsStanding stop run s'
  standing stop s' run-stop k behind-is = record {
    front = h;
    back = remaining nodes (lefts s) ((line, step) ∷ rest);
    parts = λ told. sym (p.rest told);
    within = p.within;
    script = p.script;
    given = p.given;
    all = ap (λ (os : List Out). p.given ++ os) k.undrained ∙ p.all;
    written = λ t. k.written t ∙ p.written (k.told t);
    behind = behind-is;
  }

  -- whole first lines were written
  lines-until : (s' : Stage) (run-stop : RunStop) → StepStops run-stop s s' step → HasLeft anywhere run s'.sink
  lines-until s' run-stop k told t =
      first_written anywhere (shown run.job.form run.job.nodes p.given) (shown run.job.form run.job.nodes (s.hand.core.kept.undrained ++ handed_out run.job.trace nodes (remaining nodes (lefts s) ((line, step) ∷ rest)))) (shown_until run.job (whole_of run)) run.sink.written s'.sink.written
      (k.written t ∙ p.written (k.told t))
      (sym (shown-append run.job.form run.job.nodes p.given (s.hand.core.kept.undrained ++ handed_out run.job.trace nodes (remaining nodes (lefts s) ((line, step) ∷ rest))))
      ∙ ap (shown run.job.form run.job.nodes) (outs-whole told))
    where
      outs-whole : AllTold run.feeds → p.given ++ (s.hand.core.kept.undrained ++ handed_out run.job.trace nodes (remaining nodes (lefts s) ((line, step) ∷ rest))) ≡ handed_out run.job.trace (run_nodes run.job) (whole_of run)
      outs-whole told =
          sym (append_assoc p.given s.hand.core.kept.undrained (handed_out run.job.trace nodes (remaining nodes (lefts s) ((line, step) ∷ rest))))
          ∙ ap (λ (os : List Out). os ++ handed_out run.job.trace nodes (remaining nodes (lefts s) ((line, step) ∷ rest))) p.all
          ∙ sym (outputs-append run.job.trace (run_nodes run.job) h (remaining nodes (lefts s) ((line, step) ∷ rest))) ∙ ap (handed_out run.job.trace (run_nodes run.job)) (sym (p.rest told))

  -- the entry of the step would have been the next
  next-is : (entry : Entry) → AllTold run.feeds → entry_of s h step ≡ Some entry → h ++ entry ∷ remaining (nodes_from nodes (entry ∷ [])) (left_behind (lefts s) step) rest ≡ whole_of run
  next-is entry told is = sym (p.rest told ∙ ap (λ (es : List Entry). h ++ es) (remaining-step nodes (lefts s) line step rest entry (entry-here (Some entry) is)))

  module _ (s' : Stage) (stream : ℕ) where
    -- the arrival of the stream's next turn would have been
    arrives-next : (why : FeedWhy) (f : FeedFails s s' step stream why) → AllTold run.feeds → ArrivesNext run h stream
    arrives-next why f told =
        let streams = streams_in s.hand.core.plan.nodes in
        let left = has_left streams f.none.before f.none.still in
        let one = one_of 0 streams s.feeds stream f.none.before ready.fed f.none.was in
        let is : entry_of s h step ≡ Some (arrival_of left.first) = ap (entry_of s h) f.is ∙ ap (λ (ts : List Turn). arrival_if (slice_get ts 0)) (left-at streams s.feeds stream f.none.before f.none.was ∙ left.left) in
        record {
          next = arrival_of left.first;
          back = remaining (nodes_from nodes (arrival_of left.first ∷ [])) (left_behind (lefts s) step) rest;
          is = next-is (arrival_of left.first) told is;
          element = left.first.element;
          turn = ap (λ (n : ℕ). Arrives n left.first.element) (left.mine ∙ one.is_number ∙ zero-add stream);
        }

    -- what arrived at the stream was accepted so far
    arrived-is : (feed : FeedState) → slice_get s.feeds stream ≡ Some feed → feed.is_open ≡ true → AllTold run.feeds → arrived_at stream h ≡ take (count_of feed) (all_accepted feed)
    arrived-is feed is still told =
        let come = p.follows.come stream feed is still in
        let fed = come.accepted.fed in
        let others = begins_with feed fed (told_at s.feeds stream feed (told-here told) is) in
        come.arrived ∙ come.accepted.are
        ∙ sym (those_so_far (all_accepted feed) _ others.0 (count_of feed) others.1 (counted feed.intake fed.judged fed.follows.has_judged))

  pub step-stops : (s' : Stage) (stop : RunStop) → StepStops stop s s' step → HasStopped stop run s'
  step-stops s' stop k = go stop k k.why
    where
      later-now : run.sink.faults ≤ s'.sink.faults
      later-now = omega (arith, p.later, k.later)

      plan-now : s'.hand.core.plan ≡ plan_run run.job
      plan-now = k.plan ∙ p.plan

      form-then : s'.gathered.results.form ≡ run.job.form
      form-then = ap (λ (w : ResultWriter). w.form) k.results ∙ form-now

      same-now : AreSameFeeds run.feeds s'.feeds
      same-now = all_same_then run.feeds s.feeds s'.feeds p.same k.same

      go : (x : RunStop) → StepStops x s s' step → StepWhy x s s' step → HasStopped x run s'
      go (ReadFault stream) k why =
          let n = why.none in
          record {
            plan = plan-now;
            form = form-then;
            same = same-now;
            later = later-now;
            cause = (n.now, n.is_now, let r = n.ends.0 in omega (arith, r));
            whole = whole-still (ReadFault stream) s' k.told k.written;
            stops = standing (ReadFault stream) s' (ReadFault stream) k (λ told.
                (arrives-next s' stream (Intake IntakeFault) why told, n.now, n.is_now, arrived-is s' stream n.before n.was n.still told ∙ sym (n.ends.1 (told_at s.feeds stream n.before (told-here told) n.was))));
          }
      go (TooLarge stream) k why =
          let n = why.none in
          let first = same_at run.feeds s.feeds stream n.before p.same n.was in
          record {
            plan = plan-now;
            form = form-then;
            same = same-now;
            later = later-now;
            cause = (first.0, first.1, λ t. subst (λ (bytes : List ℕ). 2 ^ 40 ≤ length bytes) (first.2.bytes t) (n.ends (subst IsTrue (sym first.2.told) t)).0);
            whole = whole-still (TooLarge stream) s' k.told k.written;
            stops = standing (TooLarge stream) s' (TooLarge stream) k (λ told.
                let o = same_at s.feeds s'.feeds stream n.now n.same n.is_now in
                let one = one_of 0 (streams_in s.hand.core.plan.nodes) s.feeds stream o.0 ready.fed o.1 in
                let columns = ap (λ (q : RunPlan). stream_columns (streams_in q.nodes) stream) p.plan in
                let bytes : get_or (files_of run.feeds) stream [] ≡ bytes_of n.before = ap (λ (fs : List (List ℕ)). get_or fs stream []) (sym (files_still run.feeds s.feeds p.same told)) ∙ bytes_of_feed s.feeds stream n.before n.was in (
                  arrives-next s' stream (Intake ByteLimit) why told,
                  arrived-is s' stream n.before n.was n.still told ∙ (sym (n.ends (told_at s.feeds stream n.before (told-here told) n.was)).1
                      ∙ ap₂ (λ (ks : List Column) (xs : List ℕ). fed_elements ks (take (2 ^ 40) xs)) (o.2.columns ∙ one.schema ∙ columns) (sym bytes)),
                ));
          }
      go (Limit node) k why =
          let over = why h p.follows in
          let reaches : AllTold run.feeds → (r : ReachesLimit run.job.limit (run_nodes run.job) (whole_of run) node) × (r.front ≡ h) = λ told. (
            record {
              front = h;
              next = over.entry;
              back = remaining (nodes_from nodes (over.entry ∷ [])) (left_behind (lefts s) step) rest;
              parts = sym (next-is over.entry told (over.told (told-here told)));
              within = p.within;
              beyond = subst (λ (n : ℕ). goes_beyond n (run_nodes run.job) h over.entry.event ≡ Some node) p.limit (subst (λ (q : RunPlan). goes_beyond s.hand.core.limit (nodes_of q) h over.entry.event ≡ Some node) p.plan over.beyond);
            },
            refl,
          ) in
          record {
            plan = plan-now;
            form = form-then;
            same = same-now;
            later = later-now;
            cause = λ told. (reaches told).0;
            whole = whole-still (Limit node) s' k.told k.written;
            stops = standing (Limit node) s' (Limit node) k reaches;
          }
      go (Refused refused) k why = absurd why
      go WriteFailed k why = record { plan = plan-now; form = form-then; same = same-now; later = later-now; cause = omega (arith, why, p.later); whole = whole-still WriteFailed s' k.told k.written; stops = lines-until s' WriteFailed k }
      go NoMemory k why = record { plan = plan-now; form = form-then; same = same-now; later = later-now; cause = tt; whole = whole-still NoMemory s' k.told k.written; stops = inl (standing NoMemory s' NoMemory k (λ told. tt)) }
      go (RunCut stop) k why = absurd why
      go (CutRead stream) k why = absurd why
      go (CutLarge stream) k why = absurd why
      go (CutRefused line) k why = absurd why

  -- a drain whose lines could not be written
  pub drain-stops : (s' : Stage) (stop : RunStop) → DrainStops stop s s' step → HasStopped stop run s'
  drain-stops s' stop k = subst (λ (x : RunStop). HasStopped x run s') (sym k.of) (go k.why k.leaves k.fault)
    where
      later-now : run.sink.faults ≤ s'.sink.faults
      later-now = omega (arith, p.later, k.later)

      plan-now : s'.hand.core.plan ≡ plan_run run.job
      plan-now = k.plan ∙ p.plan

      form-then : s'.gathered.results.form ≡ run.job.form
      form-then = k.form ∙ form-now

      same-now : AreSameFeeds run.feeds s'.feeds
      same-now = subst (AreSameFeeds run.feeds) (sym k.same) p.same

      behind-this : List Out
      behind-this = handed_out run.job.trace nodes (remaining nodes (lefts s) ((line, step) ∷ rest))

      outs-whole : AllTold run.feeds → (p.given ++ s.hand.core.kept.undrained) ++ behind-this ≡ handed_out run.job.trace (run_nodes run.job) (whole_of run)
      outs-whole told = ap (λ (os : List Out). os ++ behind-this) p.all ∙ sym (outputs-append run.job.trace (run_nodes run.job) h (remaining nodes (lefts s) ((line, step) ∷ rest))) ∙ ap (handed_out run.job.trace (run_nodes run.job)) (sym (p.rest told))

      left-now : (cut : Cut) → (IsTrue s'.sink.told → Leaves cut (shown s.gathered.results.form s.hand.core.plan.nodes s.hand.core.kept.undrained) s.sink.written s'.sink.written) → HasLeft cut run s'.sink
      left-now cut leaves told t =
          stop_among cut (shown run.job.form run.job.nodes p.given) (shown run.job.form run.job.nodes s.hand.core.kept.undrained) (shown run.job.form run.job.nodes behind-this) (shown_until run.job (whole_of run)) run.sink.written s.sink.written s'.sink.written
          (p.written (k.told t))
          (subst (λ (f : Form). Leaves cut (shown f run.job.nodes s.hand.core.kept.undrained) s.sink.written s'.sink.written) form-now
          (subst (λ (q : RunPlan). Leaves cut (shown s.gathered.results.form q.nodes s.hand.core.kept.undrained) s.sink.written s'.sink.written) p.plan (leaves t)))
          (ap (λ (ls : List (List ℕ)). ls ++ shown run.job.form run.job.nodes behind-this) (sym (shown-append run.job.form run.job.nodes p.given s.hand.core.kept.undrained))
          ∙ sym (shown-append run.job.form run.job.nodes (p.given ++ s.hand.core.kept.undrained) behind-this) ∙ ap (shown run.job.form run.job.nodes) (outs-whole told))

      whole-now : (IsTrue s'.sink.told → Leaves between (shown s.gathered.results.form s.hand.core.plan.nodes s.hand.core.kept.undrained) s.sink.written s'.sink.written) → IsWholeSoFar NoMemory run s'.sink
      whole-now leaves names t =
          wrote_then run.sink.written s.sink.written s'.sink.written (wrote-so-far names (k.told t))
          (leaves_lines between (shown s.gathered.results.form s.hand.core.plan.nodes s.hand.core.kept.undrained) s.sink.written s'.sink.written
          (shown_are_lines s.gathered.results.form s.hand.core.plan.nodes s.hand.core.kept.undrained (subst (λ (q : RunPlan). HasShortNames q.nodes) (sym p.plan) names)) (leaves t))

      go : (why : WriteStop) → (IsTrue s'.sink.told → Leaves (write_cut why) (shown s.gathered.results.form s.hand.core.plan.nodes s.hand.core.kept.undrained) s.sink.written s'.sink.written) → (why ≡ Failed → Rose s.sink.faults s'.sink.faults)
          → HasStopped (of_turn (of_write why)) run s'
      go Failed leaves fault = record { plan = plan-now; form = form-then; same = same-now; later = later-now; cause = let r = fault refl in omega (arith, r, p.later); whole = λ names t. tt; stops = left-now anywhere leaves }
      go WriteMemory leaves fault = record { plan = plan-now; form = form-then; same = same-now; later = later-now; cause = tt; whole = whole-now leaves; stops = inr (k.drained, left-now between leaves) }

  pub any-stops : (s' : Stage) (stop : RunStop) → StepStops stop s s' step ⊎ DrainStops stop s s' step → HasStopped stop run s'
  any-stops s' stop (inl k) = step-stops s' stop k
  any-stops s' stop (inr k) = drain-stops s' stop k

-- ---- the steps of a script

pub step-fits : (nodes : List PlanNode) (steps : List (ℕ × ScriptStep)) (i : ℕ) (d : ℕ × ScriptStep) → AreStepsOf nodes steps → i < length steps → IsStepOf nodes (get_or steps i d).1
step-fits nodes [] i d fits lt = absurd (omega (arith, lt))
step-fits nodes ((line, step) ∷ steps) zero d fits lt = fits.0
step-fits nodes ((line, step) ∷ steps) (suc i) d fits lt = step-fits nodes steps i d fits.1 (omega (arith, lt))

-- the step at a place is the first of those that are to come
pub playing-at : (run : RunStart) (h : List Entry) (s : Stage) (steps : List (ℕ × ScriptStep)) (i : ℕ) (d : ℕ × ScriptStep) → i < length steps → IsPlaying run h s (drop i steps) → IsPlaying run h s (get_or steps i d ∷ drop (i + 1) steps)
playing-at run h s steps i d lt p = subst (IsPlaying run h s) (drop_more steps i d lt) p

pub playing-done : (run : RunStart) (h : List Entry) (s : Stage) (steps : List (ℕ × ScriptStep)) (i : ℕ) → length steps ≤ i → IsPlaying run h s (drop i steps) → IsPlaying run h s []
playing-done run h s steps i le p = subst (IsPlaying run h s) (drop_all i steps le) p
