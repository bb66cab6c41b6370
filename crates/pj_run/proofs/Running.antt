-- A run on one thread begins, and why one stops.
use Rattle.pj_run.specs.Jobs.{Job}
use Rattle.pj_plan.specs.declared.node.PlanNode.{PlanNode}
use Rattle.pj_plan.specs.Nodes.{stream_columns, streams_in}
use Rattle.std.proofs.Common.{◌≡◌, ℕ, ◌+◌, ◌<◌, List, ◌∷◌, ◌++◌, length, map, get_or, Some, None, refl, ap, sym, ◌∙◌, append_assoc, append-nil, subst, arith, zero-add, Bool, true, cond, []}
use Rattle.std.proofs.lemmas.List.{length-map, same_lists, get_or_default}
use Rattle.pj_shape.specs.declared.columns.Column.{Column}
use Rattle.pj_events.specs.declared.events.Entry.{Entry}
use Rattle.pj_pattern.specs.Fitting.{FitsDomains}
use Rattle.pj_shape.specs.Columns.{domains_of}
use Rattle.pj_events.specs.Plan.{Node, operator_at}
use Rattle.pj_events.specs.History.{streams_of}
use Rattle.pj_events.specs.Limits.{StaysWithin, BeginsBeyond, ReachesLimit}
use Rattle.pj_events.specs.OneThread.{Turn, turns_of, in_rounds, turns_entries, all_turns, schema_of}
use Rattle.pj_laws.proofs.Rounds.{length-all, all-at}
use Rattle.pj_laws.proofs.OneThreadAnswer.{rounds-go-on}
use Rattle.pj_core.specs.Cores.{CoreState}
use Rattle.pj_feed.specs.declared.feeds.Arrival.{Arrival}
use Rattle.pj_feed.specs.declared.feeds.Arrival.TheVariants.{Brought, Closing}
use Rattle.pj_report.specs.declared.writer.ResultWriter.{ResultWriter}
use Rattle.pj_run.specs.declared.run.Gathered.{Gathered}
use Rattle.pj_feed.specs.Feeds.{FeedState, feed_left, feeds_left, brought, closes, turn_in, files_of, AreFeeds, AreNew, AllTold, BringsIn, accepted_of}
use Rattle.pj_report.specs.Forms.{taken_so_far}
use Rattle.pj_run.specs.Runs.{run_nodes, IsNewCore, job_in}
use Rattle.pj_laws.proofs.Limits.{within-append}
use Rattle.pj_run.specs.RunEnds.{CutCause, TurnsCause}
use Rattle.pj_run.specs.Turning.{IsTurnOf}
use Rattle.pj_events.specs.declared.events.Stop.{Stop}
use Rattle.pj_events.specs.declared.events.Stop.TheVariants.{Limit as CoreLimit, NoMemory as CoreMemory}
use Rattle.pj_io.specs.States.{SinkState}
use Rattle.pj_report.specs.Written.{flat}
use Rattle.pj_run.proofs.Accepting.{count-streams, schema-is}
use Rattle.pj_run.proofs.OutputLaws.{goes_beyond, legal_run, whole_run}
use Rattle.pj_run.proofs.Planned.{IsPlanned, new_planned}
use Rattle.pj_feed.proofs.AllFeeds.{all_same, one_of, feeds_long, first_left}
use Rattle.pj_run.specs.declared.run.Writing.{Writing}
use Rattle.pj_run.specs.declared.stops.RunStop.{RunStop}
use Rattle.pj_run.specs.declared.stops.RunStop.TheVariants.{ReadFault, TooLarge, Limit, Refused, WriteFailed, NoMemory, Cut as RunCut, CutRead, CutLarge, CutRefused}
use Rattle.pj_run.specs.Checking.{HoldsNone}
use Rattle.pj_run.specs.Goes.{CoreCause, HasLists, IsGoing, RunStart, StopCause}
use Rattle.pj_report.proofs.Forms.{shown-nil}

-- ---- all turns

abbrev pub turn_lists : Job → List (List ℕ) → List (List Turn)
turn_lists job files = all_turns (run_nodes job) 0 (streams_of (run_nodes job)) (accepted_of (streams_in job.nodes) files)

count-lists : (job : Job) (files : List (List ℕ)) → length (turn_lists job files) ≡ length (streams_in job.nodes)
count-lists job files = length-all (run_nodes job) 0 (streams_of (run_nodes job)) (accepted_of (streams_in job.nodes) files) ∙ count-streams job

list-at : (job : Job) (files : List (List ℕ)) (k : ℕ) → k < length (streams_in job.nodes) → turns_of k (stream_columns (streams_in job.nodes) k) (get_or (accepted_of (streams_in job.nodes) files) k []) ≡ get_or (turn_lists job files) k []
list-at job files k lt =
    ap (λ (ks : List Column). turns_of k ks (get_or (accepted_of (streams_in job.nodes) files) k [])) (sym (schema-is job k 0 lt))
    ∙ (ap (λ (n : ℕ). turns_of n (schema_of (operator_at (run_nodes job) (get_or (streams_of (run_nodes job)) k 0))) (get_or (accepted_of (streams_in job.nodes) files) k [])) (sym (zero-add k))
    ∙ sym (all-at (run_nodes job) 0 k 0 (streams_of (run_nodes job)) (accepted_of (streams_in job.nodes) files) (omega (arith, lt, count-streams job))))

-- the turns that are left in the feeds at first are those of the history
pub feeds-lists : (job : Job) (feeds : List FeedState) → AreFeeds 0 (streams_in job.nodes) feeds → AreNew feeds → map (feed_left (streams_in job.nodes)) feeds ≡ turn_lists job (files_of feeds)
feeds-lists job feeds f new =
    same_lists (map (feed_left (streams_in job.nodes)) feeds) (turn_lists job (files_of feeds))
    (length-map feeds (feed_left (streams_in job.nodes)) ∙ (feeds_long 0 (streams_in job.nodes) feeds f ∙ sym (count-lists job (files_of feeds))))
    (λ k d lt. at k d lt)
  where
    at : (k : ℕ) (d : List Turn) → k < length (map (feed_left (streams_in job.nodes)) feeds) → get_or (map (feed_left (streams_in job.nodes)) feeds) k d ≡ get_or (turn_lists job (files_of feeds)) k d
    at k d lt =
        let there : k < length feeds = omega (arith, lt, length-map feeds (feed_left (streams_in job.nodes))) in
        let place : k < length (streams_in job.nodes) = omega (arith, there, feeds_long 0 (streams_in job.nodes) feeds f) in
        get_or_default (map (feed_left (streams_in job.nodes)) feeds) k d [] lt
        ∙ (first_left (streams_in job.nodes) 0 (streams_in job.nodes) feeds k f new there
        ∙ (ap (λ (n : ℕ). brought (streams_in job.nodes) n (get_or (accepted_of (streams_in job.nodes) (files_of feeds)) k []) ++ closes (streams_in job.nodes) n true) (zero-add k)
        ∙ (list-at job (files_of feeds) k place ∙ get_or_default (turn_lists job (files_of feeds)) k [] d (omega (arith, place, count-lists job (files_of feeds))))))

first-turns : (job : Job) (feeds : List FeedState) (at : ℕ) → at ≡ 0 → AreFeeds 0 (streams_in job.nodes) feeds → AreNew feeds
    → feeds_left (streams_in job.nodes) feeds at ≡ in_rounds (all_turns (run_nodes job) 0 (streams_of (run_nodes job)) (accepted_of (streams_in job.nodes) (files_of feeds)))
first-turns job feeds at first f new =
    ap (feeds_left (streams_in job.nodes) feeds) first ∙ (sym (rounds-go-on (map (feed_left (streams_in job.nodes)) feeds)) ∙ ap in_rounds (feeds-lists job feeds f new))

-- ---- the run of a new core

-- all of its turns are still to be made
module _ (writing : Writing) (core : CoreState) (fresh : IsNewCore core) (feeds : List FeedState) (at : ℕ) (sink : SinkState) (fed : AreFeeds 0 (streams_in core.plan.nodes) feeds) (new : AreNew feeds) (first : at ≡ 0) where
  abbrev pub run-of : RunStart
  run-of = record { job = job_in writing core; feeds = feeds; sink = sink }

  pub is-planned : IsPlanned (job_in writing core)
  is-planned = new_planned None writing core fresh tt

  module _ (gathered : Gathered) (results : gathered.results ≡ taken_so_far writing.form []) (asked : gathered.accepted.asked ≡ writing.check) (lists : HoldsNone (cond writing.check (length feeds) 0) gathered.accepted.lists.items) where
    pub begins-lists : HasLists (length (streams_in core.plan.nodes)) gathered.accepted
    begins-lists a = lists.0 ∙ (ap (λ (b : Bool). cond b (length feeds) 0) (sym asked ∙ a) ∙ feeds_long 0 (streams_in core.plan.nodes) feeds fed)

    pub begins : IsGoing run-of [] core feeds at gathered sink
    begins = record {
      plan = fresh.fresh.of_plan;
      limit = fresh.fresh.with_limit;
      form = ap (λ (w : ResultWriter). w.form) results;
      asked = asked;
      same = all_same feeds;
      later = omega arith;
      made = λ told. record {
        stands = fresh.fresh.stands;
        rest = ap (turns_entries true (run_nodes (job_in writing core))) (first-turns (job_in writing core) feeds at first fed new);
        brings = record { legal = legal_run (job_in writing core) (files_of feeds) is-planned; elements = (whole_run (job_in writing core) (files_of feeds) is-planned refl).arrived };
        within = tt;
        taken = results;
      };
      kept = λ told a s lt. lists.1 s;
      written = λ told t. sym (append-nil sink.written) ∙ ap (λ (ls : List (List ℕ)). sink.written ++ flat ls) (sym (shown-nil writing.form core.plan.nodes));
    }

-- ---- turns

-- where the limit is reached
pub reached : (limit : ℕ) (nodes : List Node) (whole done front back rest : List Entry) (node : ℕ) → whole ≡ done ++ ((front ++ back) ++ rest) → StaysWithin limit nodes [] done → StaysWithin limit nodes done front
    → BeginsBeyond limit nodes (done ++ front) back node → (r : ReachesLimit limit nodes whole node) × (r.front ≡ done ++ front)
reached limit nodes whole done front [] rest node e d w b = absurd b
reached limit nodes whole done front (entry ∷ back) rest node e d w b = (
  record {
    front = done ++ front;
    next = entry;
    back = back ++ rest;
    parts = e ∙ (ap (λ (es : List Entry). done ++ es) (append_assoc front (entry ∷ back) rest) ∙ sym (append_assoc done front (entry ∷ (back ++ rest))));
    within = within-append limit nodes [] done front d w;
    beyond = b;
  },
  refl,
)

-- what a turn brings is of one of these streams and fits its columns
pub turn_of_feeds : (streams : List PlanNode) (feeds : List FeedState) (next : Arrival) → AreFeeds 0 streams feeds → BringsIn feeds (Some next) → IsTurnOf streams (turn_in streams next)
turn_of_feeds streams feeds (Brought stream element) f b =
    let o = one_of 0 streams feeds b.0 b.1 f b.2 in
    let number : stream ≡ b.0 = b.3.0 ∙ (o.is_number ∙ zero-add b.0) in
    (omega (arith, number, o.there), λ z. subst (λ (ks : List Column). FitsDomains (domains_of ks) element) (o.schema ∙ ap (stream_columns streams) (sym number)) b.3.1)
turn_of_feeds streams feeds (Closing stream) f b =
    let o = one_of 0 streams feeds b.0 b.1 f b.2 in
    let number : stream ≡ b.0 = b.3 ∙ (o.is_number ∙ zero-add b.0) in
    (omega (arith, number, o.there), λ z. absurd (omega (arith, z)))

-- ---- why it stopped

cut_cause : (stop : Stop) (run : RunStart) → IsPlanned run.job → (AllTold run.feeds → CoreCause stop run) → AllTold run.feeds → CutCause stop run.job (files_of run.feeds)
cut_cause (CoreLimit node) run planned why told = goes_beyond run.job (files_of run.feeds) planned node (why told)
cut_cause CoreMemory run planned why told = tt

-- at a limit of elements more come to the node in all than may
pub turns_cause : (stop : RunStop) (run : RunStart) (news : List FeedState) (sink : SinkState) → IsPlanned run.job → StopCause stop run news sink → TurnsCause stop run.job run.feeds news run.sink sink
turns_cause (ReadFault stream) run news sink planned why = why
turns_cause (TooLarge stream) run news sink planned why = why
turns_cause (Limit node) run news sink planned why = λ told. goes_beyond run.job (files_of run.feeds) planned node (why told)
turns_cause (Refused line) run news sink planned why = why
turns_cause WriteFailed run news sink planned why = why
turns_cause NoMemory run news sink planned why = tt
turns_cause (RunCut stop) run news sink planned why = (why.0, cut_cause stop run planned why.1)
turns_cause (CutRead stream) run news sink planned why = why
turns_cause (CutLarge stream) run news sink planned why = why
turns_cause (CutRefused line) run news sink planned why = why
