-- What a run with workers leaves, by how its crew ended and how its core was closed.
use Rattle.std.proofs.Common.{ℕ, ◌≡◌, true, List, [], ◌∷◌, ◌++◌, Option, Some, None, Result, Ok, Err, IsTrue, inl, inr, refl, sym, ap, ◌∙◌, subst, append_assoc, append-nil}
use Rattle.pj_io.specs.States.{SinkState}
use Rattle.pj_pattern.specs.declared.element.Element.{Element}
use Rattle.pj_events.specs.declared.events.Entry.{Entry}
use Rattle.pj_events.specs.declared.events.Event.TheVariants.{Stopped}
use Rattle.pj_events.specs.declared.events.Out.{Out}
use Rattle.pj_events.specs.declared.events.Stop.{Stop}
use Rattle.pj_events.specs.declared.events.Stop.TheVariants.{Limit as CoreLimit, NoMemory as CoreMemory}
use Rattle.pj_events.specs.History.{IsLegal, nodes_from, reached_of}
use Rattle.pj_events.specs.Limits.{BeginsBeyond, StaysWithin}
use Rattle.pj_events.specs.OneThread.{plain}
use Rattle.pj_events.specs.Outcomes.{drained_of, elements_of, elements_out, outputs_of}
use Rattle.pj_laws.specs.HistoryLaws.{AllAreCertified}
use Rattle.pj_laws.proofs.Histories.{outputs-append}
use Rattle.pj_laws.proofs.HistoryAnswers.{fronts-are-legal}
use Rattle.pj_laws.proofs.Limits.{within-append}
use Rattle.pj_laws.proofs.OneRun.{elements-append}
use Rattle.pj_laws.proofs.Steps.{elements-append as outs-elements}
use Rattle.pj_plan.specs.Sound.{IsSoundPlan}
use Rattle.pj_core.specs.Cores.{CoreState, StandsFor, nodes_in}
use Rattle.pj_core.specs.Plans.{RunPlan, nodes_of}
use Rattle.pj_core.specs.Turns.{Finishes, finishing}
use Rattle.pj_core.proofs.Planned.{planned}
use Rattle.pj_feed.specs.Feeds.{FeedState, files_of}
use Rattle.pj_report.specs.declared.stops.WriteStop.{WriteStop}
use Rattle.pj_report.specs.declared.stops.WriteStop.TheVariants.{Failed, NoMemory as LineMemory}
use Rattle.pj_report.specs.Forms.{shown, taken_so_far}
use Rattle.pj_report.specs.Written.{FrontOf, WholeLines, WritesBy, anywhere, between, flat, write_cut}
use Rattle.pj_report.proofs.Forms.{shown-append}
use Rattle.pj_report.proofs.LinesWritten.{stop_before, stop_then, written_then}
use Rattle.pj_run.specs.Jobs.{Job}
use Rattle.pj_run.specs.Runs.{outs_by, plan_run, run_nodes}
use Rattle.pj_run.specs.declared.stops.TurnStop.{TurnStop}
use Rattle.pj_run.specs.declared.stops.TurnStop.TheVariants.{Limit as TurnLimit, WriteFailed as TurnFailed, NoMemory as TurnMemory, Cut as TurnCut}
use Rattle.pj_run.specs.declared.stops.RunStop.{RunStop}
use Rattle.pj_run.specs.declared.stops.RunStop.TheVariants.{ReadFault, TooLarge, Limit, Refused, WriteFailed, NoMemory, Cut, CutRead, CutLarge, CutRefused}
use Rattle.pj_run.specs.Stops.{of_turn}
use Rattle.pj_workers.specs.Writes.{IsWritten}
use Rattle.pj_workers.specs.declared.writing.WriteEnd.{WriteEnd}
use Rattle.pj_workers.specs.declared.writing.WriteEnd.TheVariants.{Over, WriteFault, NoMemory as WriteMemory}
use Rattle.pj_crew_laws.specs.Acts.{Act}
use Rattle.pj_crew_laws.specs.Crews.{AllWhole, WritesAlone}
use Rattle.pj_crew_laws.proofs.Draining.{writer-drains-all}
use Rattle.pj_crew_runs.specs.Limits.{ComesBeyond}
use Rattle.pj_crew_runs.specs.Runs.{IsCrewRun, IsFrontHistory, IsSettled, hub_of}
use Rattle.pj_crew_runs.proofs.Fronts.{brings-fronts}
use Rattle.pj_crew_runs.proofs.Settled.{hands-out-all, settles-whole}
use Rattle.pj_crew.proofs.Endings.{some-is}
use Rattle.pj_parallel.specs.Closing.{ClosesOver, Closes, IsOfCrew, RunState, cut_of, cut_where, rest_end}
use Rattle.pj_parallel.specs.Parallel.{CutTells, IsDone, IsStopped, LimitTells, StopLeaves, StopTells}
use Rattle.pj_parallel.specs.Settling.{CameTo, SettlesInto, SettleStops, StopsSettling, TurnLeft}
use Rattle.pj_parallel.proofs.Causing.{limit-in}
use Rattle.pj_crew_runs.proofs.Limiting.{settling-limits-have-cause}
use Rattle.pj_parallel.proofs.Work.{work-brings-nothing}

first-none : {X : Type 0} (xs ys : List X) → xs ++ ys ≡ [] → xs ≡ []
first-none [] ys e = refl
first-none (x ∷ xs) ys e = absurd (cc)

-- a crew that ran the job, and what became of what its writer drained
pub record Came (job : Job) (feeds : List FeedState) (acts : List Act) (end : WriteEnd) (before : SinkState) (now : RunState) : Type 0 where
  pub history : List Entry
  pub run : IsCrewRun job feeds acts history
  pub writer : ℕ
  pub alone : WritesAlone acts writer
  pub stood : StandsFor now.core history
  pub plan : now.core.plan ≡ plan_run job
  pub limit : now.core.limit ≡ job.limit
  pub wrote : IsWritten end job.nodes (taken_so_far job.form []) now.results before now.sink (drained_of job.trace (run_nodes job) history writer)
  pub form : now.results.form ≡ job.form

module _ (job : Job) (sound : IsSoundPlan job.nodes) (certified : AllAreCertified (run_nodes job)) (feeds : List FeedState) (acts : List Act) (end : WriteEnd) (before : SinkState) (now : RunState) (c : Came job feeds acts end before now) where
  abbrev lines : List Out → List (List ℕ)
  lines outs = shown job.form job.nodes outs

  abbrev drained : List Out
  drained = drained_of job.trace (run_nodes job) c.history c.writer

  -- what was drained, and what was not, is all
  all-outs : drained ++ now.core.kept.undrained ≡ outs_by job c.history
  all-outs =
      ap (λ (os : List Out). drained ++ os) (c.stood.stands.1 ∙ ap (λ (p : RunPlan). (reached_of p.trace (nodes_of p) c.history).undrained) c.plan)
      ∙ writer-drains-all (hub_of job) (planned (plan_run job) sound) acts c.history c.run.crew c.writer c.alone

  all-lines : lines drained ++ lines now.core.kept.undrained ≡ lines (outs_by job c.history)
  all-lines = sym (shown-append job.form job.nodes drained now.core.kept.undrained) ∙ ap lines all-outs

  fronts : IsFrontHistory job (files_of feeds) c.history
  fronts = brings-fronts job sound certified feeds acts c.history c.run

  nodes-are : now.core.plan.nodes ≡ job.nodes
  nodes-are = ap (λ (p : RunPlan). p.nodes) c.plan

  -- ---- a run that was made to its end

  pub is-done : AllWhole acts → end ≡ Over → (new : RunState) → SettlesInto now.core new.core now.results new.results now.sink new.sink → (IsTrue new.sink.told → IsTrue now.sink.told) → IsDone job feeds new.core new.results before new.sink
  is-done whole over new s told = record {
    history = c.history ++ finishing true now.core c.history;
    whole = settles-whole job sound certified feeds acts c.history c.run whole now.core new.core s.outs settled;
    stands = s.finishes.makes.stands c.history c.stood;
    results_are = s.taken job.form (elements_out drained) (wrote.0 job.form [] refl) ∙ ap (taken_so_far job.form) (sym (outs-elements drained s.outs) ∙ ap elements_out handed);
    written = λ t.
        subst (λ (ls : List (List ℕ)). new.sink.written ≡ before.written ++ flat ls) (sym (shown-append job.form job.nodes drained s.outs) ∙ ap lines handed)
        (written_then (lines drained) (lines s.outs) before.written now.sink.written new.sink.written (wrote.1 (told t))
        (subst (λ ns. new.sink.written ≡ now.sink.written ++ flat (shown job.form ns s.outs)) nodes-are (subst (λ f. new.sink.written ≡ now.sink.written ++ flat (shown f now.core.plan.nodes s.outs)) c.form (s.written t))));
  }
    where
      settled : IsSettled job c.history now.core new.core s.outs
      settled = record { plan = c.plan; limit = c.limit; stood = c.stood; finishes = s.finishes }

      handed : drained ++ s.outs ≡ outs_by job (c.history ++ finishing true now.core c.history)
      handed = hands-out-all job sound certified feeds acts c.history c.run c.writer c.alone now.core new.core s.outs settled

      wrote : IsWritten Over job.nodes (taken_so_far job.form []) now.results before now.sink drained
      wrote = subst (λ (e : WriteEnd). IsWritten e job.nodes (taken_so_far job.form []) now.results before now.sink drained) over c.wrote

  -- ---- a front of what settles the core

  module _ (outs : List Out) (stop : Stop) (s : StopsSettling now.core c.history outs stop) where
    abbrev reached : List Entry
    reached = c.history ++ s.some.front

    nodes-in : nodes_in now.core ≡ run_nodes job
    nodes-in = ap nodes_of c.plan

    handed-some : drained ++ outs ≡ outs_by job reached
    handed-some =
        ap (λ (os : List Out). drained ++ os) s.outs_are
        ∙ (sym (append_assoc drained now.core.kept.undrained (outputs_of now.core.plan.trace (nodes_from (nodes_in now.core) c.history) s.some.front))
        ∙ (ap (λ (os : List Out). os ++ outputs_of now.core.plan.trace (nodes_from (nodes_in now.core) c.history) s.some.front) all-outs
        ∙ (ap (λ (p : RunPlan). outs_by job c.history ++ outputs_of p.trace (nodes_from (nodes_of p) c.history) s.some.front) c.plan
        ∙ sym (outputs-append job.trace (run_nodes job) c.history s.some.front))))

    lines-some : lines drained ++ lines outs ≡ lines (outs_by job reached)
    lines-some = sym (shown-append job.form job.nodes drained outs) ∙ ap lines handed-some

    front-some : IsFrontHistory job (files_of feeds) reached
    front-some = record {
      legal =
          fronts-are-legal (run_nodes job) reached (plain (Stopped stop) ∷ [])
          (subst (λ (p : RunPlan). IsLegal (nodes_of p) (reached ++ plain (Stopped stop) ∷ [])) (s.plan ∙ c.plan) s.some.stands.legal);
      within =
          within-append job.limit (run_nodes job) [] c.history s.some.front fronts.within
          (subst (λ n. StaysWithin n (run_nodes job) c.history s.some.front) c.limit (subst (λ ns. StaysWithin now.core.limit ns c.history s.some.front) nodes-in s.some.within));
      arrived = λ stream lt.
          let b = fronts.arrived stream lt in
          let none : elements_of stream s.some.front ≡ [] = first-none (elements_of stream s.some.front) (elements_of stream s.some.back)
          (sym (elements-append stream s.some.front s.some.back) ∙ (ap (λ (es : List Entry). elements_of stream es) (sym s.some.parts) ∙ work-brings-nothing stream now.core c.history)) in
          let same : elements_of stream reached ≡ elements_of stream c.history =
          elements-append stream c.history s.some.front ∙ (ap (λ (es : List Element). elements_of stream c.history ++ es) none ∙ append-nil (elements_of stream c.history)) in
          (b.0, ap (λ (es : List Element). es ++ b.0) same ∙ b.1);
    }

  begins-some : (outs : List Out) (node : ℕ) (s : StopsSettling now.core c.history outs (CoreLimit node)) → BeginsBeyond job.limit (run_nodes job) (c.history ++ s.some.front) s.some.back node
  begins-some outs node s =
      subst (λ n. BeginsBeyond n (run_nodes job) (c.history ++ s.some.front) s.some.back node) c.limit
      (subst (λ ns. BeginsBeyond now.core.limit ns (c.history ++ s.some.front) s.some.back node) (ap nodes_of c.plan) s.some.stops)

  beyond-some : (outs : List Out) (node : ℕ) (s : StopsSettling now.core c.history outs (CoreLimit node)) → LimitTells job (c.history ++ s.some.front) node
  beyond-some outs node s =
      inr (record { core = now.core; before = c.history; stood = c.stood; front = s.some.front; back = s.some.back; parts = s.some.parts; made = refl; beyond = begins-some outs node s })

  -- more elements come to the node of a limit that was met then than may
  comes-beyond : AllWhole acts → (outs : List Out) (node : ℕ) → StopsSettling now.core c.history outs (CoreLimit node) → ComesBeyond job (files_of feeds) node
  comes-beyond whole outs node s =
      settling-limits-have-cause job sound certified feeds acts c.history c.run whole now.core c.plan c.limit c.stood s.some.front s.some.back node s.some.parts (front-some outs (CoreLimit node) s).within (begins-some outs node s)

  pub settling-cause : AllWhole acts → (turn : TurnStop) (new : CoreState) (sink : SinkState) → SettleStops now.results.form now.core new now.sink sink turn → (node : ℕ) → limit-in turn ≡ Some node → ComesBeyond job (files_of feeds) node
  settling-cause whole (TurnLimit n) new sink s node is = let at = s c.history c.stood in comes-beyond whole at.outs node (subst (λ k. StopsSettling now.core c.history at.outs (CoreLimit k)) (some-is n node is) at.came)
  settling-cause whole TurnFailed new sink s node is = absurd (cc)
  settling-cause whole TurnMemory new sink s node is = absurd (cc)
  settling-cause whole (TurnCut (CoreLimit n)) new sink s node is = let at = s c.history c.stood in comes-beyond whole at.outs node (subst (λ k. StopsSettling now.core c.history at.outs (CoreLimit k)) (some-is n node is) at.came)
  settling-cause whole (TurnCut CoreMemory) new sink s node is = absurd (cc)

  cut-some : (outs : List Out) (stop : Stop) (s : StopsSettling now.core c.history outs stop) → CutTells stop job (c.history ++ s.some.front)
  cut-some outs (CoreLimit node) s = beyond-some outs node s
  cut-some outs CoreMemory s = tt

  -- ---- a run that stopped

  module _ (news : List FeedState) (new : RunState) (told : IsTrue new.sink.told → IsTrue now.sink.told) where
    abbrev FirstTells : Option RunStop → Type 0
    FirstTells None = Unit {0}
    FirstTells (Some stop) = StopTells stop job news c.history

    tells-cut : (first : Option RunStop) → IsOfCrew first → FirstTells first → StopTells (cut_where first) job news c.history
    tells-cut None of t = tt
    tells-cut (Some (ReadFault stream)) of t = t
    tells-cut (Some (TooLarge stream)) of t = t
    tells-cut (Some (Limit node)) of t = t
    tells-cut (Some (Refused line)) of t = absurd of
    tells-cut (Some WriteFailed) of t = absurd of
    tells-cut (Some NoMemory) of t = tt
    tells-cut (Some (Cut stop)) of t = absurd of
    tells-cut (Some (CutRead stream)) of t = absurd of
    tells-cut (Some (CutLarge stream)) of t = absurd of
    tells-cut (Some (CutRefused line)) of t = absurd of

    leaves-cut : (first : Option RunStop) (ls : List (List ℕ)) (a b : List ℕ) → IsOfCrew first → FrontOf (flat ls) a b → StopLeaves (cut_where first) ls a b
    leaves-cut None ls a b of f = f
    leaves-cut (Some (ReadFault stream)) ls a b of f = f
    leaves-cut (Some (TooLarge stream)) ls a b of f = f
    leaves-cut (Some (Limit node)) ls a b of f = f
    leaves-cut (Some (Refused line)) ls a b of f = absurd of
    leaves-cut (Some WriteFailed) ls a b of f = absurd of
    leaves-cut (Some NoMemory) ls a b of f = f
    leaves-cut (Some (Cut stop)) ls a b of f = absurd of
    leaves-cut (Some (CutRead stream)) ls a b of f = absurd of
    leaves-cut (Some (CutLarge stream)) ls a b of f = absurd of
    leaves-cut (Some (CutRefused line)) ls a b of f = absurd of

    leaves-all : (stop : RunStop) (ls : List (List ℕ)) (a b : List ℕ) → IsOfCrew (Some stop) → b ≡ a ++ flat ls → StopLeaves stop ls a b
    leaves-all (ReadFault stream) ls a b of e = e
    leaves-all (TooLarge stream) ls a b of e = e
    leaves-all (Limit node) ls a b of e = e
    leaves-all (Refused line) ls a b of e = absurd of
    leaves-all WriteFailed ls a b of e = absurd of
    leaves-all NoMemory ls a b of e = record { first = ls; others = []; all = append-nil ls; written = e }
    leaves-all (Cut stop) ls a b of e = absurd of
    leaves-all (CutRead stream) ls a b of e = absurd of
    leaves-all (CutLarge stream) ls a b of e = absurd of
    leaves-all (CutRefused line) ls a b of e = absurd of

    -- the crew's own history, of whose lines this was written
    with-history : (stop : RunStop) → StopTells stop job news c.history → (IsTrue new.sink.told → StopLeaves stop (lines drained ++ lines now.core.kept.undrained) before.written new.sink.written) → IsStopped job feeds news stop before new.sink
    with-history stop tells left = record {
      history = c.history;
      front = fronts;
      tells = tells;
      written = λ t. subst (λ ls. StopLeaves stop ls before.written new.sink.written) all-lines (left t);
    }

    -- the writer failed, or found no memory
    writer-failed : (first : Option RunStop) → IsOfCrew first → FirstTells first → new.sink ≡ now.sink → end ≡ WriteFault → IsStopped job feeds news (cut_where first) before new.sink
    writer-failed first of t same failed = with-history (cut_where first) (tells-cut first of t) (λ d.
        leaves-cut first (lines drained ++ lines now.core.kept.undrained) before.written new.sink.written of
        (subst (λ (s : SinkState). FrontOf (flat (lines drained ++ lines now.core.kept.undrained)) before.written s.written) (sym same)
        (stop_before anywhere (lines drained) (lines now.core.kept.undrained) before.written now.sink.written
        ((subst (λ (e : WriteEnd). IsWritten e job.nodes (taken_so_far job.form []) now.results before now.sink drained) failed c.wrote).1 (told d)))))

    writer-lacked : new.sink ≡ now.sink → end ≡ WriteMemory → IsStopped job feeds news NoMemory before new.sink
    writer-lacked same lacked = with-history NoMemory tt (λ d.
        subst (λ (s : SinkState). WholeLines (lines drained ++ lines now.core.kept.undrained) before.written s.written) (sym same)
        (stop_before between (lines drained) (lines now.core.kept.undrained) before.written now.sink.written
        ((subst (λ (e : WriteEnd). IsWritten e job.nodes (taken_so_far job.form []) now.results before now.sink drained) lacked c.wrote) (told d))))

    module _ (over : end ≡ Over) where
      all-written : IsTrue new.sink.told → now.sink.written ≡ before.written ++ flat (lines drained)
      all-written t = (subst (λ (e : WriteEnd). IsWritten e job.nodes (taken_so_far job.form []) now.results before now.sink drained) over c.wrote).1 (told t)

      -- behind a stop that workers tell
      rest-written : (stop : RunStop) → IsOfCrew (Some stop) → FirstTells (Some stop) → (written : Result (Unit {0}) WriteStop)
          → (IsTrue new.sink.told → WritesBy write_cut (lines now.core.kept.undrained) now.sink new.sink written) → IsStopped job feeds news (rest_end stop written) before new.sink
      rest-written stop of t (Ok u) left = with-history stop t (λ d. leaves-all stop (lines drained ++ lines now.core.kept.undrained) before.written new.sink.written of
          (written_then (lines drained) (lines now.core.kept.undrained) before.written now.sink.written new.sink.written (all-written d) (left d)))
      rest-written stop of t (Err Failed) left = with-history (cut_of stop) (tells-cut (Some stop) of t) (λ d. leaves-cut (Some stop) (lines drained ++ lines now.core.kept.undrained) before.written new.sink.written of
          (stop_then anywhere (lines drained) (lines now.core.kept.undrained) before.written now.sink.written new.sink.written (all-written d) (left d)))
      rest-written stop of t (Err LineMemory) left = with-history NoMemory tt (λ d. stop_then between (lines drained) (lines now.core.kept.undrained) before.written now.sink.written new.sink.written (all-written d) (left d))

      -- as the core was settled
      module _ (whole : AllWhole acts) (outs : List Out) where
        all-made : (f : Finishes true now.core new.core outs) → IsFrontHistory job (files_of feeds) (c.history ++ finishing true now.core c.history)
        all-made f =
            let w = settles-whole job sound certified feeds acts c.history c.run whole now.core new.core outs (record { plan = c.plan; limit = c.limit; stood = c.stood; finishes = f }) in
            record { legal = w.legal; within = w.within; arrived = λ stream lt. ([], append-nil (elements_of stream (c.history ++ finishing true now.core c.history)) ∙ w.whole.arrived stream lt) }

        lines-made : (f : Finishes true now.core new.core outs) → lines drained ++ lines outs ≡ lines (outs_by job (c.history ++ finishing true now.core c.history))
        lines-made f =
            sym (shown-append job.form job.nodes drained outs)
            ∙ ap lines (hands-out-all job sound certified feeds acts c.history c.run c.writer c.alone now.core new.core outs (record { plan = c.plan; limit = c.limit; stood = c.stood; finishes = f }))

        came-to : (turn : TurnStop) → CameTo now.core new.core c.history outs turn → (IsTrue new.sink.told → TurnLeft turn (lines outs) now.sink.written new.sink.written) → IsStopped job feeds news (of_turn turn) before new.sink
        came-to (TurnLimit node) s left = record {
          history = c.history ++ s.some.front;
          front = front-some outs (CoreLimit node) s;
          tells = beyond-some outs node s;
          written = λ t. subst (λ ls. new.sink.written ≡ before.written ++ flat ls) (lines-some outs (CoreLimit node) s) (written_then (lines drained) (lines outs) before.written now.sink.written new.sink.written (all-written t) (left t));
        }
        came-to TurnFailed f left = record {
          history = c.history ++ finishing true now.core c.history;
          front = all-made f;
          tells = tt;
          written = λ t. subst (λ ls. FrontOf (flat ls) before.written new.sink.written) (lines-made f) (stop_then anywhere (lines drained) (lines outs) before.written now.sink.written new.sink.written (all-written t) (left t));
        }
        came-to TurnMemory (inl f) left = record {
          history = c.history ++ finishing true now.core c.history;
          front = all-made f;
          tells = tt;
          written = λ t. subst (λ ls. WholeLines ls before.written new.sink.written) (lines-made f) (stop_then between (lines drained) (lines outs) before.written now.sink.written new.sink.written (all-written t) (left t));
        }
        came-to TurnMemory (inr (stop, s)) left = record {
          history = c.history ++ s.some.front;
          front = front-some outs stop s;
          tells = tt;
          written = λ t. subst (λ ls. WholeLines ls before.written new.sink.written) (lines-some outs stop s) (stop_then between (lines drained) (lines outs) before.written now.sink.written new.sink.written (all-written t) (left t));
        }
        came-to (TurnCut stop) s left = record {
          history = c.history ++ s.some.front;
          front = front-some outs stop s;
          tells = cut-some outs stop s;
          written = λ t. subst (λ ls. FrontOf (flat ls) before.written new.sink.written) (lines-some outs stop s) (stop_then anywhere (lines drained) (lines outs) before.written now.sink.written new.sink.written (all-written t) (left t));
        }

    -- whatever stopped it
    pub is-stopped : (first : Option RunStop) → IsOfCrew first → FirstTells first → (first ≡ None → end ≡ Over → AllWhole acts) → (stop : RunStop) → Closes first end now new (Err stop) → IsStopped job feeds news stop before new.sink
    is-stopped first of t whole stop closes = by-end end refl closes
      where
        answered : (other : RunStop) (given : Result (Unit {0}) RunStop) → given ≡ Err stop → given ≡ Err other → IsStopped job feeds news other before new.sink → IsStopped job feeds news stop before new.sink
        answered other given here there s = let same : other ≡ stop = cc in subst (λ x. IsStopped job feeds news x before new.sink) same s

        over-first : (f : Option RunStop) → f ≡ first → end ≡ Over → ClosesOver f now new (Err stop) → IsStopped job feeds news stop before new.sink
        over-first None q over s =
            let at = s.stops c.history c.stood in
            subst (λ x. IsStopped job feeds news x before new.sink) (sym s.answer_is)
            (came-to over (whole (sym q) over) at.outs s.stop at.came (λ d.
            subst (λ ns. TurnLeft s.stop (shown job.form ns at.outs) now.sink.written new.sink.written) nodes-are (subst (λ f. TurnLeft s.stop (shown f now.core.plan.nodes at.outs) now.sink.written new.sink.written) c.form (at.written d))))
        over-first (Some told-stop) q over r =
            subst (λ x. IsStopped job feeds news x before new.sink) (sym r.answer_is)
            (rest-written over told-stop (subst IsOfCrew (sym q) of) (subst FirstTells (sym q) t) r.written (λ d.
            subst (λ ns. WritesBy write_cut (shown job.form ns now.core.kept.undrained) now.sink new.sink r.written) nodes-are (subst (λ f. WritesBy write_cut (shown f now.core.plan.nodes now.core.kept.undrained) now.sink new.sink r.written) c.form (r.lines d))))

        by-end : (e : WriteEnd) → e ≡ end → Closes first e now new (Err stop) → IsStopped job feeds news stop before new.sink
        by-end Over q closes = over-first first refl (sym q) closes
        by-end WriteFault q (is, same) = answered (cut_where first) (Err stop) refl is (writer-failed first of t same (sym q))
        by-end WriteMemory q (is, same) = answered NoMemory (Err stop) refl is (writer-lacked same (sym q))
