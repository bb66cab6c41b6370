-- The turns of a run that has gone so far.
use Rattle.std.proofs.Common.{◌≡◌, ◌≤◌, ℕ, ◌<◌, true, List, [], ◌∷◌, ◌++◌, length, map, get_or, None, Some, IsTrue, ap, sym, ◌∙◌, append-nil, subst, arith}
use Rattle.std.proofs.lemmas.List.{get_or-map, get_or_default, length-map, same_lists}
use Rattle.pj_value.specs.declared.values.Value.{Value}
use Rattle.pj_io.specs.Causes.{Rose}
use Rattle.pj_io.specs.States.{SinkState}
use Rattle.pj_shape.specs.declared.columns.Column.{Column}
use Rattle.pj_pattern.specs.declared.element.Element.{Element}
use Rattle.pj_pattern.specs.declared.element.Element.TheVariants.{Punct}
use Rattle.pj_pattern.specs.Columns.{all_wild}
use Rattle.pj_pattern.specs.Elements.{rows_of}
use Rattle.pj_pattern.proofs.Elements.{rows_of-append}
use Rattle.pj_plan.specs.declared.node.PlanNode.{PlanNode}
use Rattle.pj_plan.specs.Nodes.{stream_columns, streams_in}
use Rattle.pj_events.specs.declared.events.Entry.{Entry}
use Rattle.pj_events.specs.declared.events.Out.{Out}
use Rattle.pj_events.specs.declared.events.Stop.{Stop}
use Rattle.pj_events.specs.History.{nodes_from, streams_of}
use Rattle.pj_events.specs.OneThread.{Turn, arrival_of, turns_entries}
use Rattle.pj_events.specs.Outcomes.{elements_of as arrived_at, elements_out, outputs_of as handed_out}
use Rattle.pj_core.specs.Calls.{turn_behind}
use Rattle.pj_core.specs.Cores.{CoreState, MayFollow, StandsFor}
use Rattle.pj_core.specs.Plans.{RunPlan}
use Rattle.pj_feed.specs.declared.feeds.Arrival.{Arrival}
use Rattle.pj_feed.specs.Feeds.{FeedState, AllClosed, AllTold, AreFeeds, AreSameFeeds, BringsIn, accepted_of, feeds_left, files_of, tallies_in, tallies_of, turn_in}
use Rattle.pj_plan.specs.Sound.{IsSoundPlan}
use Rattle.pj_feed.proofs.AllFeeds.{all_same_then, all_tallied, feeds_long, files_still, told_still}
use Rattle.pj_feed.proofs.StreamNodes.{few-streams}
use Rattle.pj_report.specs.declared.writer.Form.{Form}
use Rattle.pj_report.specs.declared.writer.ResultWriter.{ResultWriter}
use Rattle.pj_report.specs.Forms.{shown, taken_so_far}
use Rattle.pj_report.specs.Written.{Cut, Leaves, WritesNothing, flat}
use Rattle.pj_report.proofs.LinesWritten.{written_then}
use Rattle.pj_run.specs.declared.checking.AcceptedRows.{AcceptedRows}
use Rattle.pj_run.specs.declared.run.Gathered.{Gathered}
use Rattle.pj_run.specs.declared.stops.FeedStop.{FeedStop}
use Rattle.pj_run.specs.declared.stops.TurnStop.{TurnStop}
use Rattle.pj_run.specs.declared.stops.TurnStop.TheVariants.{WriteFailed as TurnFailed, Cut as TurnCut}
use Rattle.pj_run.specs.Checking.{IsThere, with_arrival}
use Rattle.pj_run.specs.Cuts.{run_cut, turn_cut}
use Rattle.pj_run.specs.Ends.{lines_until}
use Rattle.pj_run.specs.Feeding.{StopsIn}
use Rattle.pj_run.specs.Outcome.{AreAccepted}
use Rattle.pj_run.specs.Refused.{RunLeaves, TurnLeaves}
use Rattle.pj_run.specs.Runs.{accepted_rows, run_nodes}
use Rattle.pj_run.specs.Stops.{of_feed, of_turn}
use Rattle.pj_run.specs.Turning.{TurnDone, TurnStops, turn_outs}
use Rattle.pj_run.proofs.Accepting.{count-accepted, count-streams, schema-is}
use Rattle.pj_run.proofs.Carried.{turn_cut_same}
use Rattle.pj_run.proofs.Keeping.{keeps_more, there_of}
use Rattle.pj_run.proofs.Refused.{stands_on}
use Rattle.pj_run.proofs.Running.{turn_of_feeds}
use Rattle.pj_run.specs.Goes.{BringsAll, EndsRun, HasKept, HasLists, HasMade, IsGoing, RunStart, StopCause, StopLeaves, whole_of}
use Rattle.pj_run.proofs.Going.{feed_leaves, feed_why, kept_front, lines_so_far, made_next, may_follow, shown_until, turn_front, turn_leaves, turn_lines, turn_made, turn_stopped, turn_why}
use Rattle.pj_events.specs.Limits.{StaysWithin}

-- the streams of a sound plan are few
pub few_of : (nodes : List PlanNode) (feeds : List FeedState) → IsSoundPlan nodes → AreFeeds 0 (streams_in nodes) feeds → length feeds ≤ 128
few_of nodes feeds sound fed = let a = feeds_long 0 (streams_in nodes) feeds fed in let b = few-streams nodes sound in omega (arith, a, b)

-- there is a list for the stream of what a turn brings
pub there_for : (core : CoreState) (feeds : List FeedState) (next : Arrival) (accepted : AcceptedRows) → AreFeeds 0 (streams_in core.plan.nodes) feeds → BringsIn feeds (Some next) → HasLists (length (streams_in core.plan.nodes)) accepted
    → accepted.asked ≡ true → IsThere next accepted.lists.items
there_for core feeds next accepted fed brings lists asked =
    there_of next (streams_in core.plan.nodes) accepted.lists.items (turn_of_feeds (streams_in core.plan.nodes) feeds next fed brings) (lists asked)

-- the lines that are written until then, where nothing was written since
until_now : (run : RunStart) (history : List Entry) (core : CoreState) (feeds : List FeedState) (at : ℕ) (gathered : Gathered) (sink mid : SinkState) → IsGoing run history core feeds at gathered sink → WritesNothing sink mid → AllTold run.feeds → IsTrue mid.told
    → mid.written ≡ run.sink.written ++ lines_until run.job history
until_now run history core feeds at gathered sink mid going nothing told t = nothing.same t ∙ going.written told (nothing.told t)

-- ---- a turn

module _ (run : RunStart) (history : List Entry) (core : CoreState) (feeds feeds' : List FeedState) (at at' : ℕ) (gathered : Gathered) (sink mid : SinkState) (next : Arrival) (going : IsGoing run history core feeds at gathered sink)
    (fed : AreFeeds 0 (streams_in core.plan.nodes) feeds) (nothing : WritesNothing sink mid)
    (gives : AllTold feeds → (streams : List PlanNode) → AreFeeds 0 streams feeds → feeds_left streams feeds at ≡ turn_in streams next ∷ feeds_left streams feeds' at') where
  abbrev t : Turn
  t = turn_in (streams_in core.plan.nodes) next

  abbrev left : List Turn
  left = feeds_left (streams_in run.job.nodes) feeds' at'

  streams-are : streams_in core.plan.nodes ≡ streams_in run.job.nodes
  streams-are = ap (λ (p : RunPlan). streams_in p.nodes) going.plan

  made : AllTold run.feeds → HasMade run history core (t ∷ left) gathered.results
  made told =
      made_next run history core gathered.results next (feeds_left (streams_in run.job.nodes) feeds at) left going.plan (going.made told)
      (gives (told_still run.feeds feeds going.same told) (streams_in run.job.nodes) (subst (λ (ss : List PlanNode). AreFeeds 0 ss feeds) streams-are fed))

  may : AllTold run.feeds → MayFollow core history (arrival_of t)
  may told = may_follow run history core t left gathered.results going.plan going.limit (made told)

  -- the row that it brings is kept
  pub kept_more : (accepted' : AcceptedRows) → HasLists (length (streams_in core.plan.nodes)) gathered.accepted → BringsIn feeds (Some next) → accepted'.asked ≡ gathered.accepted.asked → length accepted'.lists.items ≡ length gathered.accepted.lists.items
      → (gathered.accepted.asked ≡ true → accepted'.lists.items ≡ with_arrival next gathered.accepted.lists.items) → AllTold run.feeds → HasKept run (history ++ turn_behind core history t) accepted'
  kept_more accepted' lists brings asked many kept told =
      (keeps_more gathered.accepted accepted' (length (streams_in run.job.nodes)) history core next
      (record { many = λ a. lists a ∙ ap length streams-are; rows = going.kept told }) asked many kept (there_for core feeds next gathered.accepted fed brings lists)).rows

  -- it was made
  pub going_more : (core' : CoreState) (results' : ResultWriter) (accepted' : AcceptedRows) (new : SinkState) → AreSameFeeds feeds feeds' → core.kept.undrained ≡ [] → TurnDone core core' t gathered.results results' → results'.form ≡ gathered.results.form → accepted'.asked ≡ gathered.accepted.asked
      → (AllTold run.feeds → HasKept run (history ++ turn_behind core history t) accepted') → (IsTrue new.told → IsTrue mid.told) → mid.faults ≤ new.faults
      → (IsTrue new.told → (h : List Entry) → StandsFor core h → MayFollow core h (arrival_of t) → new.written ≡ mid.written ++ flat (shown gathered.results.form core.plan.nodes (turn_outs core h t)))
      → IsGoing run (history ++ turn_behind core history t) core' feeds' at' (record { results = results'; accepted = accepted' }) new
  going_more core' results' accepted' new same drained done form asked kept tells later lines = record {
    plan = done.makes.plan ∙ going.plan;
    limit = done.makes.limit ∙ going.limit;
    form = form ∙ going.form;
    asked = asked ∙ going.asked;
    same = all_same_then run.feeds feeds feeds' going.same same;
    later = omega (arith, going.later, nothing.later, later);
    made = λ told. turn_made run history core t left gathered.results going.plan going.limit (made told) core' results' drained done;
    kept = kept;
    written = λ told t'.
        written_then (shown_until run.job history) (shown run.job.form core.plan.nodes (turn_outs core history t)) run.sink.written mid.written new.written
        (until_now run history core feeds at gathered sink mid going nothing told (tells t'))
        (subst (λ (f : Form). new.written ≡ mid.written ++ flat (shown f core.plan.nodes (turn_outs core history t))) going.form (lines t' history (made told).stands (may told)))
        ∙ ap (λ (ls : List (List ℕ)). run.sink.written ++ flat ls) (turn_lines run history core t left gathered.results going.plan going.limit (made told));
  }

  -- it was refused
  pub refused_turn : (core' : CoreState) (results' : ResultWriter) (accepted' : AcceptedRows) → TurnLeaves core core' t gathered.results results' → (AllTold run.feeds → HasKept run (history ++ turn_behind core history t) accepted')
      → RunLeaves run core' (record { results = results'; accepted = accepted' })
  refused_turn core' results' accepted' leaves kept told = (
    turn_front run history core t left gathered.results going.plan going.limit (made told) core' results' leaves,
    kept_front run history core t left gathered.results going.plan going.limit (made told) accepted' (kept told),
  )

  -- it stopped
  pub turn_cut_lines : (stop : TurnStop) (new : SinkState) → (IsTrue new.told → IsTrue mid.told)
      → (IsTrue new.told → (h : List Entry) → StandsFor core h → MayFollow core h (arrival_of t) → Leaves (turn_cut stop) (shown gathered.results.form core.plan.nodes (turn_outs core h t)) mid.written new.written)
      → AllTold run.feeds → IsTrue new.told → Leaves (run_cut (of_turn stop)) (shown_until run.job (whole_of run)) run.sink.written new.written
  turn_cut_lines stop new tells lines told t' =
      subst (λ (cut : Cut). Leaves cut (shown_until run.job (whole_of run)) run.sink.written new.written) (sym (turn_cut_same stop))
      (turn_stopped run history core t left gathered.results going.plan going.limit (made told) (turn_cut stop) run.sink.written mid.written new.written
      (until_now run history core feeds at gathered sink mid going nothing told (tells t'))
      (subst (λ (f : Form). Leaves (turn_cut stop) (shown f core.plan.nodes (turn_outs core history t)) mid.written new.written) going.form (lines t' history (made told).stands (may told))))

  stops-here : (stop : TurnStop) (new : SinkState) → ((h : List Entry) → StandsFor core h → MayFollow core h (arrival_of t) → TurnStops stop gathered.results.form core h t mid new) → AllTold run.feeds → TurnStops stop run.job.form core history t mid new
  stops-here stop new stops told = subst (λ (f : Form). TurnStops stop f core history t mid new) going.form (stops history (made told).stands (may told))

  pub turn_ends : (stop : TurnStop) (new : SinkState) → (IsTrue new.told → IsTrue mid.told) → ((h : List Entry) → StandsFor core h → MayFollow core h (arrival_of t) → TurnStops stop gathered.results.form core h t mid new)
      → AllTold run.feeds → IsTrue new.told → StopLeaves (of_turn stop) run feeds' new.written
  turn_ends stop new tells stops told t' =
      turn_leaves run history core t left gathered.results going.plan going.limit (made told) stop feeds' mid new (until_now run history core feeds at gathered sink mid going nothing told (tells t')) t' (stops-here stop new stops told)

  pub turn_causes : (stop : TurnStop) (new : SinkState) → (stop ≡ TurnFailed → Rose mid.faults new.faults) → ((why : Stop) → stop ≡ TurnCut why → Rose mid.faults new.faults)
      → ((h : List Entry) → StandsFor core h → MayFollow core h (arrival_of t) → TurnStops stop gathered.results.form core h t mid new) → StopCause (of_turn stop) run feeds' new
  turn_causes stop new rose cut stops =
      turn_why stop run feeds' core history t mid new going.plan going.limit (let a = going.later in let b = nothing.later in omega (arith, a, b)) rose cut
      (λ told. (left, gathered.results, made told, stops-here stop new stops told))

-- a refusal where no turn was begun
pub refused_before : (run : RunStart) (history : List Entry) (core : CoreState) (feeds : List FeedState) (at : ℕ) (gathered : Gathered) (sink : SinkState) → IsGoing run history core feeds at gathered sink → core.kept.stop ≡ None → RunLeaves run core gathered
refused_before run history core feeds at gathered sink going on told =
    let rest : List Entry = turns_entries true (nodes_from (run_nodes run.job) history) (feeds_left (streams_in run.job.nodes) feeds at) in
    let outs : List Out = handed_out run.job.trace (run_nodes run.job) history in (
      record {
        front = history;
        others = rest;
        all = (going.made told).rest;
        so = (stands_on core history on (going.made told).stands, record { first = outs; others = []; all = append-nil outs; so = (going.made told).taken });
      },
      record { front = history; others = rest; all = (going.made told).rest; so = going.kept told },
    )

-- a refusal of the row that a turn brings
pub refused_row : (run : RunStart) (history : List Entry) (core : CoreState) (feeds : List FeedState) (at : ℕ) (gathered : Gathered) (sink : SinkState) → IsGoing run history core feeds at gathered sink → core.kept.stop ≡ None
    → (accepted' : AcceptedRows) → accepted'.asked ≡ gathered.accepted.asked → accepted'.lists.items ≡ gathered.accepted.lists.items → RunLeaves run core (record { results = gathered.results; accepted = accepted' })
refused_row run history core feeds at gathered sink going on accepted' asked same told =
    let left = refused_before run history core feeds at gathered sink going on told in (
      left.0,
      record {
        front = left.1.front;
        others = left.1.others;
        all = left.1.all;
        so = λ is s lt. ap (λ (lists : List (List (List Value))). get_or lists s []) same ∙ left.1.so (sym asked ∙ is) s lt;
      },
    )

-- ---- a stream's turn that could not be made

module _ (run : RunStart) (history : List Entry) (core : CoreState) (feeds feeds' : List FeedState) (at : ℕ) (gathered : Gathered) (sink mid : SinkState) (going : IsGoing run history core feeds at gathered sink) where
  -- whole first lines were written
  pub going_lines : (cut : Cut) → WritesNothing sink mid → AllTold run.feeds → IsTrue mid.told → Leaves cut (shown_until run.job (whole_of run)) run.sink.written mid.written
  going_lines cut nothing told t =
      lines_so_far run history core (feeds_left (streams_in run.job.nodes) feeds at) gathered.results cut mid.written (going.made told) (until_now run history core feeds at gathered sink mid going nothing told t)

  pub feed_ends : (stop : FeedStop) → WritesNothing sink mid → AreFeeds 0 (streams_in core.plan.nodes) feeds → AreSameFeeds feeds feeds' → StopsIn feeds feeds' at sink mid stop → AllTold run.feeds → IsTrue mid.told → StopLeaves (of_feed stop) run feeds' mid.written
  feed_ends stop nothing fed same stops told t =
      feed_leaves run history core feeds feeds' at gathered.results stop sink mid mid.written (going.made told)
      (subst (λ (p : RunPlan). AreFeeds 0 (streams_in p.nodes) feeds) going.plan fed) going.same same stops told (until_now run history core feeds at gathered sink mid going nothing told t)

  pub feed_causes : (stop : FeedStop) → StopsIn feeds feeds' at sink mid stop → StopCause (of_feed stop) run feeds' mid
  feed_causes stop stops = feed_why run feeds feeds' at stop sink mid stops going.same going.later

-- ---- nothing is left

-- all rows are kept, where they are asked for
all-kept : (run : RunStart) (accepted : AcceptedRows) → BringsAll run → HasLists (length (streams_in run.job.nodes)) accepted → HasKept run (whole_of run) accepted → AreAccepted (accepted_rows run.job (files_of run.feeds)) accepted
all-kept run accepted brings many kept asked = same_lists accepted.lists.items (map rows_of lists) (many asked ∙ sym (length-map lists rows_of ∙ count-accepted (streams_in run.job.nodes) (files_of run.feeds))) at
  where
    lists : List (List Element)
    lists = accepted_of (streams_in run.job.nodes) (files_of run.feeds)

    at : (k : ℕ) (d : List (List Value)) → k < length accepted.lists.items → get_or accepted.lists.items k d ≡ get_or (map rows_of lists) k d
    at k d lt =
        let there : k < length (streams_in run.job.nodes) = let m = many asked in omega (arith, lt, m) in
        let within : k < length (streams_of (run_nodes run.job)) = omega (arith, there, count-streams run.job) in
        let inside : k < length lists = omega (arith, there, count-accepted (streams_in run.job.nodes) (files_of run.feeds)) in
        let had : arrived_at k (whole_of run) ≡ get_or lists k [] ++ Punct (all_wild (length (stream_columns (streams_in run.job.nodes) k))) ∷ [] =
        brings.elements k within ∙ ap (λ (ks : List Column). get_or lists k [] ++ Punct (all_wild (length ks)) ∷ []) (schema-is run.job k (length (run_nodes run.job)) there) in
        get_or_default accepted.lists.items k d [] lt
        ∙ (kept asked k there
        ∙ (ap rows_of had
        ∙ (rows_of-append (get_or lists k []) (Punct (all_wild (length (stream_columns (streams_in run.job.nodes) k))) ∷ [])
        ∙ (append-nil (rows_of (get_or lists k [])) ∙ sym (get_or-map rows_of lists k [] d inside)))))

module _ (run : RunStart) (history : List Entry) (core : CoreState) (feeds feeds' : List FeedState) (at : ℕ) (gathered : Gathered) (sink mid : SinkState) (going : IsGoing run history core feeds at gathered sink) (fed : AreFeeds 0 (streams_in core.plan.nodes) feeds)
    (nothing : AllTold feeds → (streams : List PlanNode) → AreFeeds 0 streams feeds → feeds_left streams feeds at ≡ []) where
  fed-here : AreFeeds 0 (streams_in run.job.nodes) feeds
  fed-here = subst (λ (p : RunPlan). AreFeeds 0 (streams_in p.nodes) feeds) going.plan fed

  all-made : AllTold run.feeds → history ≡ whole_of run
  all-made told =
      let none = nothing (told_still run.feeds feeds going.same told) (streams_in run.job.nodes) fed-here in
      sym (append-nil history) ∙ (ap (λ (ts : List Turn). history ++ turns_entries true (nodes_from (run_nodes run.job) history) ts) (sym none) ∙ (going.made told).rest)

  pub end_lines : WritesNothing sink mid → AllTold run.feeds → IsTrue mid.told → mid.written ≡ run.sink.written ++ flat (shown_until run.job (whole_of run))
  end_lines still told t = until_now run history core feeds at gathered sink mid going still told t ∙ ap (λ (h : List Entry). run.sink.written ++ lines_until run.job h) (all-made told)

  pub end_gathers : HasLists (length (streams_in core.plan.nodes)) gathered.accepted → AllClosed feeds → feeds' ≡ feeds → EndsRun run core feeds' gathered
  end_gathers lists closed same = record {
    stands = λ told. subst (StandsFor core) (all-made told) (going.made told).stands;
    within = λ told. subst (λ (h : List Entry). StaysWithin run.job.limit (run_nodes run.job) [] h) (all-made told) (going.made told).within;
    gathers = λ told. record {
      each = ap tallies_in same ∙ (all_tallied 0 (streams_in run.job.nodes) feeds fed-here closed (told_still run.feeds feeds going.same told) ∙ ap (tallies_of (streams_in run.job.nodes)) (files_still run.feeds feeds going.same told));
      results = (going.made told).taken ∙ ap (λ (h : List Entry). taken_so_far run.job.form (elements_out (handed_out run.job.trace (run_nodes run.job) h))) (all-made told);
      asked = going.asked;
      rows = all-kept run gathered.accepted (going.made told).brings (λ a. lists a ∙ ap (λ (p : RunPlan). length (streams_in p.nodes)) going.plan) (subst (λ (h : List Entry). HasKept run h gathered.accepted) (all-made told) (going.kept told));
    };
  }
