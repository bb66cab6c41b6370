-- A run that has begun, turn by turn.
use Rattle.std.proofs.Common.{◌≡◌, ◌≤◌, ℕ, ◌+◌, ◌<◌, ◌^◌, Bool, true, false, List, [], ◌∷◌, ◌++◌, length, map, get_or, take, drop, Some, IsTrue, refl, ap, ap₂, sym, ◌∙◌, append_assoc, subst, arith, zero-add}
use Rattle.std.specs.List.{slice_get}
use Rattle.std.specs.Option.{option_map}
use Rattle.std.proofs.lemmas.List.{length-map, length-append, map-append, take-append-drop}
use Rattle.std.proofs.lemmas.Option.{slice_get-map, get_or_from_slice_get}
use Rattle.pj_io.specs.Causes.{Rose}
use Rattle.pj_io.specs.States.{SinkState}
use Rattle.pj_shape.specs.declared.columns.Column.{Column}
use Rattle.pj_pattern.specs.declared.element.Element.{Element}
use Rattle.pj_pattern.specs.declared.element.Element.TheVariants.{Punct}
use Rattle.pj_pattern.specs.Columns.{all_wild}
use Rattle.pj_plan.specs.declared.node.PlanNode.{PlanNode}
use Rattle.pj_plan.specs.Nodes.{stream_columns, streams_in}
use Rattle.pj_events.specs.declared.events.Entry.{Entry}
use Rattle.pj_events.specs.declared.events.Event.TheVariants.{Arrive}
use Rattle.pj_events.specs.declared.events.Out.{Out}
use Rattle.pj_events.specs.declared.events.Stop.{Stop}
use Rattle.pj_events.specs.declared.events.Stop.TheVariants.{Limit as CoreLimit, NoMemory as CoreMemory}
use Rattle.pj_events.specs.Plan.{Node}
use Rattle.pj_events.specs.History.{IsEntryAllowed, IsLegal, nodes_from, reached_of, streams_of}
use Rattle.pj_events.specs.Limits.{BeginsBeyond, ReachesLimit, StaysWithin}
use Rattle.pj_events.specs.OneThread.{Turn, arrival_of, follow_up, turn_entries, turns_entries}
use Rattle.pj_events.specs.Outcomes.{elements_of as arrived_at, elements_out, outputs_of as handed_out}
use Rattle.pj_laws.proofs.HistoryAnswers.{fronts-are-legal, grows-legally}
use Rattle.pj_laws.proofs.Histories.{nodes-append, outputs-append}
use Rattle.pj_laws.proofs.Limits.{within-append}
use Rattle.pj_laws.proofs.Rounds.{AreTagged}
use Rattle.pj_laws.proofs.Steps.{elements-append}
use Rattle.pj_core.specs.Calls.{turn_behind}
use Rattle.pj_core.specs.Cores.{CoreState, MayFollow}
use Rattle.pj_core.specs.Plans.{RunPlan, nodes_of}
use Rattle.pj_feed.specs.declared.feeds.Arrival.{Arrival}
use Rattle.pj_feed.specs.Feeds.{FeedState, AllTold, AreFeeds, AreSameFeeds, accepted_of, all_accepted, brought, bytes_of, closes, count_of, fed_elements, feed_left, feeds_left, files_of, turn_in}
use Rattle.pj_feed.proofs.AllFeeds.{IsOneOf, accepted_of_feed, bytes_of_feed, feeds_long, files_still, left_tagged, one_of, same_at, tagged_parts, told_at, told_still}
use Rattle.pj_intake.specs.declared.intake.IntakeStop.TheVariants.{ReadFault as IntakeFault, ByteLimit, NoMemory as OutOfMemory}
use Rattle.pj_report.specs.declared.writer.ResultWriter.{ResultWriter}
use Rattle.pj_report.specs.Firsts.{OfFirst}
use Rattle.pj_report.specs.Forms.{shown, taken_so_far}
use Rattle.pj_report.specs.Written.{anywhere, flat, Cut, FrontOf, Leaves}
use Rattle.pj_report.proofs.Forms.{shown-append}
use Rattle.pj_report.proofs.LinesWritten.{first_written, stop_among, stop_then, written_then}
use Rattle.pj_run.specs.declared.checking.AcceptedRows.{AcceptedRows}
use Rattle.pj_run.specs.declared.stops.FeedStop.{FeedStop}
use Rattle.pj_run.specs.declared.stops.FeedWhy.{FeedWhy}
use Rattle.pj_run.specs.declared.stops.FeedWhy.TheVariants.{Intake, WriteFailed as FlushFailed}
use Rattle.pj_run.specs.declared.stops.TurnStop.{TurnStop}
use Rattle.pj_run.specs.declared.stops.TurnStop.TheVariants.{Limit as TurnLimit, WriteFailed as TurnFailed, NoMemory as TurnMemory, Cut as TurnCut}
use Rattle.pj_run.specs.Ends.{EndsAtLimit, EndsBefore, lines_until}
use Rattle.pj_run.specs.Feeding.{FeedEnds, StopsIn}
use Rattle.pj_run.specs.Jobs.{Job}
use Rattle.pj_run.specs.Refused.{OfFront, StandsUpTo, TurnLeaves}
use Rattle.pj_run.specs.Runs.{outs_by, plan_run, run_nodes}
use Rattle.pj_run.specs.Stops.{of_turn, stop_at}
use Rattle.pj_run.specs.Turning.{BreaksOff, CutEnd, CutsTurn, EndsTurn, TurnDone, TurnStops, lines_of, turn_outs}
use Rattle.pj_run.proofs.Accepting.{count-streams, schema-is}
use Rattle.pj_run.proofs.Arrivals.{arrived-is, brought-left, elements-turns}
use Rattle.pj_run.proofs.Running.{reached}
use Rattle.pj_run.specs.Goes.{CoreCause, HasKept, HasMade, RunStart, StopCause, StopLeaves, whole_of}

-- the lines that are written of what a history hands out
abbrev pub shown_until : Job → List Entry → List (List ℕ)
shown_until job history = shown job.form job.nodes (handed_out job.trace (run_nodes job) history)

-- the next turn is the first of those that are left
pub made_next : (run : RunStart) (history : List Entry) (core : CoreState) (results : ResultWriter) (next : Arrival) (old new : List Turn) → core.plan ≡ plan_run run.job → HasMade run history core old results
    → old ≡ turn_in (streams_in run.job.nodes) next ∷ new → HasMade run history core (turn_in (streams_in core.plan.nodes) next ∷ new) results
made_next run history core results next old new plan made gives =
    subst (λ (ts : List Turn). HasMade run history core ts results) (gives ∙ ap (λ (p : RunPlan). turn_in (streams_in p.nodes) next ∷ new) (sym plan)) made

module _ (run : RunStart) (history : List Entry) (core : CoreState) (t : Turn) (left : List Turn) (results : ResultWriter) (plan : core.plan ≡ plan_run run.job) (limit : core.limit ≡ run.job.limit) (made : HasMade run history core (t ∷ left) results) where
  abbrev job : Job
  job = run.job

  abbrev nodes : List Node
  nodes = nodes_from (run_nodes job) history

  abbrev here : List Entry
  here = turn_entries true nodes t

  abbrev behind : List Entry
  behind = turn_behind core history t

  here-is : behind ≡ here
  here-is = ap (λ (p : RunPlan). turn_entries true (nodes_from (nodes_of p) history) t) plan

  all-legal : IsLegal (run_nodes job) (history ++ turns_entries true nodes (t ∷ left))
  all-legal = subst (IsLegal (run_nodes job)) (sym made.rest) made.brings.legal

  abbrev rest : List Entry
  rest = follow_up true (nodes_from nodes (arrival_of t ∷ [])) t.element ++ turns_entries true (nodes_from nodes here) left

  -- the next turn's arrival may follow
  pub may_follow : MayFollow core history (arrival_of t)
  may_follow =
      subst (λ (p : RunPlan). IsEntryAllowed (reached_of false (nodes_of p) history) (arrival_of t)) (sym plan)
      ((grows-legally (run_nodes job) history (arrival_of t)).0 (fronts-are-legal (run_nodes job) (history ++ arrival_of t ∷ []) rest (subst (IsLegal (run_nodes job)) (sym (append_assoc history (arrival_of t ∷ []) rest)) all-legal))).1

  parts : (history ++ behind) ++ turns_entries true (nodes_from nodes here) left ≡ whole_of run
  parts =
      ap (λ (xs : List Entry). (history ++ xs) ++ turns_entries true (nodes_from nodes here) left) here-is
      ∙ (append_assoc history here (turns_entries true (nodes_from nodes here) left) ∙ made.rest)

  nodes-are : nodes_from (run_nodes job) (history ++ behind) ≡ nodes_from nodes here
  nodes-are = nodes-append (run_nodes job) history behind ∙ ap (nodes_from nodes) here-is

  nodes-same : core.plan.nodes ≡ job.nodes
  nodes-same = ap (λ (p : RunPlan). p.nodes) plan

  -- what the history and the turn hand out
  outs-are : handed_out job.trace (run_nodes job) (history ++ behind) ≡ handed_out job.trace (run_nodes job) history ++ turn_outs core history t
  outs-are =
      outputs-append job.trace (run_nodes job) history behind
      ∙ ap (λ (p : RunPlan). handed_out job.trace (run_nodes job) history ++ handed_out p.trace (nodes_from (nodes_of p) history) behind) (sym plan)

  pub turn_lines : shown_until job history ++ shown job.form core.plan.nodes (turn_outs core history t) ≡ shown_until job (history ++ behind)
  turn_lines =
      ap (λ (ns : List PlanNode). shown_until job history ++ shown job.form ns (turn_outs core history t)) nodes-same
      ∙ (sym (shown-append job.form job.nodes (handed_out job.trace (run_nodes job) history) (turn_outs core history t)) ∙ ap (shown job.form job.nodes) (sym outs-are))

  abbrev later : List (List ℕ)
  later = shown job.form job.nodes (handed_out job.trace (nodes_from nodes here) (turns_entries true (nodes_from nodes here) left))

  rest_lines : (shown_until job history ++ shown job.form core.plan.nodes (turn_outs core history t)) ++ later ≡ shown_until job (whole_of run)
  rest_lines =
      ap (λ (ls : List (List ℕ)). ls ++ later) turn_lines
      ∙ (ap (λ (ns : List Node). shown_until job (history ++ behind) ++ shown job.form job.nodes (handed_out job.trace ns (turns_entries true (nodes_from nodes here) left))) (sym nodes-are)
      ∙ (sym (shown-append job.form job.nodes (handed_out job.trace (run_nodes job) (history ++ behind)) (handed_out job.trace (nodes_from (run_nodes job) (history ++ behind)) (turns_entries true (nodes_from nodes here) left)))
      ∙ ap (shown job.form job.nodes) (sym (outputs-append job.trace (run_nodes job) (history ++ behind) (turns_entries true (nodes_from nodes here) left)) ∙ ap (handed_out job.trace (run_nodes job)) parts)))

  -- a turn that stopped
  pub turn_stopped : (cut : Cut) (before mid after : List ℕ) → mid ≡ before ++ lines_until job history → Leaves cut (shown job.form core.plan.nodes (turn_outs core history t)) mid after → Leaves cut (shown_until job (whole_of run)) before after
  turn_stopped cut before mid after first stop =
      stop_among cut (shown_until job history) (shown job.form core.plan.nodes (turn_outs core history t)) later (shown_until job (whole_of run)) before mid after first stop rest_lines

  -- a turn that was made
  pub turn_made : (core' : CoreState) (results' : ResultWriter) → core.kept.undrained ≡ [] → TurnDone core core' t results results' → HasMade run (history ++ behind) core' left results'
  turn_made core' results' drained done = record {
    stands = done.makes.stands history made.stands may_follow;
    rest = ap (λ (ns : List Node). (history ++ behind) ++ turns_entries true ns left) nodes-are ∙ parts;
    brings = made.brings;
    within = within-append job.limit (run_nodes job) [] history behind made.within
        (subst (λ (n : ℕ). StaysWithin n (run_nodes job) history behind) limit
        (subst (λ (p : RunPlan). StaysWithin core.limit (nodes_of p) history behind) plan (done.makes.within history made.stands may_follow)));
    taken = done.taken job.form (elements_out (handed_out job.trace (run_nodes job) history)) made.taken
        ∙ ap (taken_so_far job.form) (ap (λ (es : List Out). elements_out (handed_out job.trace (run_nodes job) history) ++ elements_out es) (done.makes.hands history made.stands may_follow ∙ ap (λ (xs : List Out). xs ++ turn_outs core history t) drained)
        ∙ (sym (elements-append (handed_out job.trace (run_nodes job) history) (turn_outs core history t)) ∙ ap elements_out (sym outs-are)));
  }

  -- a turn that was refused
  pub turn_front : (core' : CoreState) (results' : ResultWriter) → TurnLeaves core core' t results results'
      → OfFront (whole_of run) (λ front. StandsUpTo core' front × OfFirst (outs_by job front) (λ es. results' ≡ taken_so_far job.form es))
  turn_front core' results' leaves =
      let f = leaves history made.stands may_follow in
      let had : List Out = handed_out job.trace (run_nodes job) history in
      let others : List Entry = turns_entries true (nodes_from nodes here) left in
      record {
        front = history ++ f.front;
        others = f.others ++ others;
        all = append_assoc history f.front (f.others ++ others)
            ∙ (ap (λ (es : List Entry). history ++ es) (sym (append_assoc f.front f.others others) ∙ ap (λ (es : List Entry). es ++ others) f.all)
            ∙ (sym (append_assoc history behind others) ∙ parts));
        so = (
          f.so.0,
          record {
            first = had ++ f.so.1.first;
            others = f.so.1.others;
            all = append_assoc had f.so.1.first f.so.1.others
                ∙ (ap (λ (os : List Out). had ++ os) f.so.1.all
                ∙ (ap (λ (p : RunPlan). had ++ handed_out p.trace (nodes_from (nodes_of p) history) f.front) plan ∙ sym (outputs-append job.trace (run_nodes job) history f.front)));
            so = f.so.1.so job.form (elements_out had) made.taken ∙ ap (taken_so_far job.form) (sym (elements-append had f.so.1.first));
          },
        );
      }

  pub kept_front : (accepted : AcceptedRows) → HasKept run (history ++ behind) accepted → OfFront (whole_of run) (λ front. HasKept run front accepted)
  kept_front accepted kept = record { front = history ++ behind; others = turns_entries true (nodes_from nodes here) left; all = parts; so = kept }

  -- a turn that brought one element beyond the limit
  reached_at : (node : ℕ) (off : BreaksOff core history t node) → (r : ReachesLimit job.limit (run_nodes job) (whole_of run) node) × (r.front ≡ history ++ off.front)
  reached_at node off =
      reached job.limit (run_nodes job) (whole_of run) history off.front off.back (turns_entries true (nodes_from nodes here) left) node
      (sym (ap (λ (es : List Entry). history ++ (es ++ turns_entries true (nodes_from nodes here) left)) (sym off.parts ∙ here-is) ∙ made.rest))
      made.within
      (subst (λ (n : ℕ). StaysWithin n (run_nodes job) history off.front) limit (subst (λ (p : RunPlan). StaysWithin core.limit (nodes_of p) history off.front) plan off.within))
      (subst (λ (n : ℕ). BeginsBeyond n (run_nodes job) (history ++ off.front) off.back node) limit (subst (λ (p : RunPlan). BeginsBeyond core.limit (nodes_of p) (history ++ off.front) off.back node) plan off.beyond))

  pub limit_reached : (node : ℕ) (off : BreaksOff core history t node) → ReachesLimit job.limit (run_nodes job) (whole_of run) node
  limit_reached node off = (reached_at node off).0

  -- the lines of what came before it
  lines_before : (node : ℕ) (off : BreaksOff core history t node) → shown_until job history ++ lines_of job.form core history off.front ≡ shown_until job (reached_at node off).0.front
  lines_before node off =
      let r = reached_at node off in
      let had : List Out = handed_out job.trace (run_nodes job) history in
      let gained : List Out = handed_out core.plan.trace (nodes_from (nodes_of core.plan) history) off.front in
      ap (λ (ns : List PlanNode). shown job.form job.nodes had ++ shown job.form ns gained) nodes-same
      ∙ (sym (shown-append job.form job.nodes had gained)
      ∙ (ap (shown job.form job.nodes) (ap (λ (p : RunPlan). had ++ handed_out p.trace (nodes_from (nodes_of p) history) off.front) plan ∙ sym (outputs-append job.trace (run_nodes job) history off.front))
      ∙ ap (λ (h : List Entry). shown_until job h) (sym r.1)))

  -- exactly the lines of what came before it were written
  stops_at_limit : (node : ℕ) (before : List ℕ) (old new : SinkState) → old.written ≡ before ++ lines_until job history → IsTrue new.told → EndsTurn job.form core history t node old new → EndsAtLimit job (files_of run.feeds) node before new.written
  stops_at_limit node before old new first told ends = record {
    reaches = (reached_at node ends.breaks).0;
    written = written_then (shown_until job history) (lines_of job.form core history ends.breaks.front) before old.written new.written first (ends.written told) ∙ ap (λ (ls : List (List ℕ)). before ++ flat ls) (lines_before node ends.breaks);
  }

  -- or a front of their bytes was
  stops_cut : (stop : Stop) (before : List ℕ) (old new : SinkState) → old.written ≡ before ++ lines_until job history → IsTrue new.told → CutsTurn stop job.form core history t old new → CutEnd stop job (files_of run.feeds) before new.written
  stops_cut (CoreLimit node) before old new first told ends = record {
    reaches = (reached_at node ends.breaks).0;
    written = subst (λ (ls : List (List ℕ)). FrontOf (flat ls) before new.written) (lines_before node ends.breaks) (stop_then anywhere (shown_until job history) (lines_of job.form core history ends.breaks.front) before old.written new.written first (ends.written told));
  }
  stops_cut CoreMemory before old new first told ends = tt

  -- what a turn that stopped leaves
  pub turn_leaves : (stop : TurnStop) (feeds : List FeedState) (old new : SinkState) → old.written ≡ run.sink.written ++ lines_until job history → IsTrue new.told → TurnStops stop job.form core history t old new → StopLeaves (of_turn stop) run feeds new.written
  turn_leaves (TurnLimit node) feeds old new first told ends = stops_at_limit node run.sink.written old new first told ends
  turn_leaves TurnFailed feeds old new first told ends = tt
  turn_leaves TurnMemory feeds old new first told ends = tt
  turn_leaves (TurnCut stop) feeds old new first told ends = stops_cut stop run.sink.written old new first told ends

  cut_cause : (stop : Stop) (old new : SinkState) → CutsTurn stop job.form core history t old new → CoreCause stop run
  cut_cause (CoreLimit node) old new ends = limit_reached node ends.breaks
  cut_cause CoreMemory old new ends = tt

-- why a turn stopped, where the sink's faults rose with a failed write
pub turn_why : (stop : TurnStop) (run : RunStart) (news : List FeedState) (core : CoreState) (history : List Entry) (t : Turn) (old new : SinkState) → core.plan ≡ plan_run run.job → core.limit ≡ run.job.limit → run.sink.faults ≤ old.faults
    → (stop ≡ TurnFailed → Rose old.faults new.faults) → ((why : Stop) → stop ≡ TurnCut why → Rose old.faults new.faults)
    → (AllTold run.feeds → (left : List Turn) × (results : ResultWriter) × HasMade run history core (t ∷ left) results × TurnStops stop run.job.form core history t old new) → StopCause (of_turn stop) run news new
turn_why (TurnLimit node) run news core history t old new plan limit later rose cut stops = λ told. let s = stops told in limit_reached run history core t s.0 s.1 plan limit s.2 node s.3.breaks
turn_why TurnFailed run news core history t old new plan limit later rose cut stops = let r = rose refl in omega (arith, r, later)
turn_why TurnMemory run news core history t old new plan limit later rose cut stops = tt
turn_why (TurnCut why) run news core history t old new plan limit later rose cut stops =
    (let r = cut why refl in omega (arith, r, later), λ told. let s = stops told in cut_cause run history core t s.0 s.1 plan limit s.2 why old new s.3)

-- ---- a stream's turn that could not be made

-- the lines of the outputs are written up to a turn of this stream
pub stops_before : (run : RunStart) (history : List Entry) (core : CoreState) (left : List Turn) (results : ResultWriter) (t : Turn) (rest : List Turn) (stream : ℕ) (lines : List ℕ) → HasMade run history core left results → left ≡ t ∷ rest → t.stream ≡ stream
    → lines ≡ run.sink.written ++ lines_until run.job history → EndsBefore run.job (files_of run.feeds) stream run.sink.written lines
stops_before run history core left results t rest stream lines made is mine written =
    let nodes : List Node = nodes_from (run_nodes run.job) history in
    record {
      front = history;
      next = arrival_of t;
      back = follow_up true (nodes_from nodes (arrival_of t ∷ [])) t.element ++ turns_entries true (nodes_from nodes (turn_entries true nodes t)) rest;
      run = sym (ap (λ (ts : List Turn). history ++ turns_entries true nodes ts) is) ∙ made.rest;
      element = t.element;
      turn = ap (λ (n : ℕ). Arrive n t.element) mine;
      within = made.within;
      written = written;
    }

-- whole first lines of the run were written
pub lines_so_far : (run : RunStart) (history : List Entry) (core : CoreState) (left : List Turn) (results : ResultWriter) (cut : Cut) (mid : List ℕ) → HasMade run history core left results → mid ≡ run.sink.written ++ lines_until run.job history
    → Leaves cut (shown_until run.job (whole_of run)) run.sink.written mid
lines_so_far run history core left results cut mid made written =
    let job = run.job in
    let nodes : List Node = nodes_from (run_nodes job) history in
    let rest : List Entry = turns_entries true nodes left in
    first_written cut (shown_until job history) (shown job.form job.nodes (handed_out job.trace nodes rest)) (shown_until job (whole_of run)) run.sink.written mid written
    (sym (shown-append job.form job.nodes (handed_out job.trace (run_nodes job) history) (handed_out job.trace nodes rest))
    ∙ (ap (shown job.form job.nodes) (sym (outputs-append job.trace (run_nodes job) history rest)) ∙ ap (λ (h : List Entry). shown_until job h) made.rest))

-- a fault rose at the file of the stream, it is too large, or the sink's faults rose
pub feed_why : (run : RunStart) (olds news : List FeedState) (at : ℕ) (stop : FeedStop) (old new : SinkState) → StopsIn olds news at old new stop → AreSameFeeds run.feeds olds → run.sink.faults ≤ old.faults → StopCause (stop_at stop.stream stop.why) run news new
feed_why run olds news at stop old new s same later = go stop.why s.stops
  where
    go : (why : FeedWhy) → FeedEnds s.old s.new old new why → StopCause (stop_at stop.stream why) run news new
    go (Intake IntakeFault) f = (s.new, s.now, let r = f.0 in omega (arith, r))
    go (Intake ByteLimit) f =
        let o = same_at run.feeds olds stop.stream s.old same s.before in
        (o.0, o.1, λ told. subst (λ (bytes : List ℕ). 2 ^ 40 ≤ length bytes) (o.2.bytes told) (f (subst IsTrue (sym o.2.told) told)).0)
    go (Intake OutOfMemory) f = tt
    go FlushFailed f = omega (arith, f, later)

-- what arrived at a stream so far are the elements that were accepted of it
arrived_so_far : (run : RunStart) (history : List Entry) (core : CoreState) (feeds : List FeedState) (at : ℕ) (results : ResultWriter) (place : ℕ) (feed : FeedState)
    → HasMade run history core (feeds_left (streams_in run.job.nodes) feeds at) results → AreFeeds 0 (streams_in run.job.nodes) feeds → files_of feeds ≡ files_of run.feeds → slice_get feeds place ≡ Some feed → feed.is_open ≡ true
    → arrived_at place history ≡ take (count_of feed) (all_accepted feed)
arrived_so_far run history core feeds at results place feed made f same is still =
    arrived-is history (turns_entries true nodes (feeds_left (streams_in job.nodes) feeds at)) place (count_of feed) (all_accepted feed) closing (feeds_left (streams_in job.nodes) feeds at) whole rest
  where
    job : Job
    job = run.job

    nodes : List Node
    nodes = nodes_from (run_nodes job) history

    o : IsOneOf (streams_in job.nodes) (0 + place) place feed
    o = one_of 0 (streams_in job.nodes) feeds place feed f is

    closing : Element
    closing = Punct (all_wild (length (stream_columns (streams_in job.nodes) place)))

    within : place < length (streams_of (run_nodes job))
    within = omega (arith, o.there, count-streams job)

    mine : get_or (accepted_of (streams_in job.nodes) (files_of run.feeds)) place [] ≡ all_accepted feed
    mine = ap (λ (fs : List (List ℕ)). get_or (accepted_of (streams_in job.nodes) fs) place []) (sym same) ∙ accepted_of_feed 0 (streams_in job.nodes) feeds place feed f is

    whole : arrived_at place (history ++ turns_entries true nodes (feeds_left (streams_in job.nodes) feeds at)) ≡ all_accepted feed ++ closing ∷ []
    whole =
        ap (arrived_at place) made.rest
        ∙ (made.brings.elements place within
        ∙ ap₂ (λ (es : List Element) (ks : List Column). es ++ Punct (all_wild (length ks)) ∷ []) mine (schema-is job place (length (run_nodes job)) o.there))

    lists : List (List Turn)
    lists = map (feed_left (streams_in job.nodes)) feeds

    split : map (feed_left (streams_in job.nodes)) (take at feeds) ++ map (feed_left (streams_in job.nodes)) (drop at feeds) ≡ lists
    split = sym (map-append (feed_left (streams_in job.nodes)) (take at feeds) (drop at feeds)) ∙ ap (map (feed_left (streams_in job.nodes))) (take-append-drop at feeds)

    here : get_or lists place [] ≡ feed_left (streams_in job.nodes) feed
    here = get_or_from_slice_get lists place (feed_left (streams_in job.nodes) feed) [] (slice_get-map (feed_left (streams_in job.nodes)) feeds place ∙ ap (option_map (feed_left (streams_in job.nodes))) is)

    tagged : AreTagged 0 (map (feed_left (streams_in job.nodes)) (take at feeds) ++ map (feed_left (streams_in job.nodes)) (drop at feeds))
    tagged = subst (AreTagged 0) (sym split) (left_tagged (streams_in job.nodes) 0 (streams_in job.nodes) feeds f)

    long : length (map (feed_left (streams_in job.nodes)) (take at feeds)) + length (map (feed_left (streams_in job.nodes)) (drop at feeds)) ≡ length (streams_in job.nodes)
    long = sym (length-append (map (feed_left (streams_in job.nodes)) (take at feeds)) (map (feed_left (streams_in job.nodes)) (drop at feeds))) ∙ (ap length split ∙ (length-map feeds (feed_left (streams_in job.nodes)) ∙ feeds_long 0 (streams_in job.nodes) feeds f))

    turns-elements : (es : List Element) → map (λ t. t.element) (brought (streams_in job.nodes) feed.stream es ++ closes (streams_in job.nodes) feed.stream true) ≡ es ++ Punct (all_wild (length (stream_columns (streams_in job.nodes) feed.stream))) ∷ []
    turns-elements [] = refl
    turns-elements (e ∷ es) = ap (λ (xs : List Element). e ∷ xs) (turns-elements es)

    rest : arrived_at place (turns_entries true nodes (feeds_left (streams_in job.nodes) feeds at)) ≡ drop (count_of feed) (all_accepted feed) ++ closing ∷ []
    rest =
        elements-turns place nodes (feeds_left (streams_in job.nodes) feeds at)
        ∙ (brought-left (map (feed_left (streams_in job.nodes)) (take at feeds)) (map (feed_left (streams_in job.nodes)) (drop at feeds)) place (tagged_parts (map (feed_left (streams_in job.nodes)) (take at feeds)) (map (feed_left (streams_in job.nodes)) (drop at feeds)) tagged).0 (tagged_parts (map (feed_left (streams_in job.nodes)) (take at feeds)) (map (feed_left (streams_in job.nodes)) (drop at feeds)) tagged).1 (omega (arith, long, o.there))
        ∙ (ap (λ (ls : List (List Turn)). map (λ t. t.element) (get_or ls place [])) split
        ∙ (ap (map (λ t. t.element)) (here ∙ ap (λ (b : Bool). brought (streams_in job.nodes) feed.stream (drop (count_of feed) (all_accepted feed)) ++ closes (streams_in job.nodes) feed.stream b) still)
        ∙ (turns-elements (drop (count_of feed) (all_accepted feed))
        ∙ ap (λ (n : ℕ). drop (count_of feed) (all_accepted feed) ++ Punct (all_wild (length (stream_columns (streams_in job.nodes) n))) ∷ []) (o.is_number ∙ zero-add place)))))

-- what a stream's turn that could not be made leaves
pub feed_leaves : (run : RunStart) (history : List Entry) (core : CoreState) (feeds feeds' : List FeedState) (at : ℕ) (results : ResultWriter) (stop : FeedStop) (old new : SinkState) (lines : List ℕ)
    → HasMade run history core (feeds_left (streams_in run.job.nodes) feeds at) results → AreFeeds 0 (streams_in run.job.nodes) feeds → AreSameFeeds run.feeds feeds → AreSameFeeds feeds feeds' → StopsIn feeds feeds' at old new stop
    → AllTold run.feeds → lines ≡ run.sink.written ++ lines_until run.job history → StopLeaves (stop_at stop.stream stop.why) run feeds' lines
unfolding stops_before
feed_leaves run history core feeds feeds' at results stop old new lines made fed first same s told written = go stop.why s.stops
  where
    job : Job
    job = run.job

    told' : AllTold feeds
    told' = told_still run.feeds feeds first told

    files : files_of feeds ≡ files_of run.feeds
    files = files_still run.feeds feeds first told

    stops : EndsBefore job (files_of run.feeds) stop.stream run.sink.written lines
    stops = let n = s.next told' (streams_in job.nodes) fed in stops_before run history core (feeds_left (streams_in job.nodes) feeds at) results n.0 n.1 stop.stream lines made n.2 n.3 written

    arrived : arrived_at stop.stream history ≡ take (count_of s.old) (all_accepted s.old)
    arrived = arrived_so_far run history core feeds at results stop.stream s.old made fed files s.before s.still

    go : (why : FeedWhy) → FeedEnds s.old s.new old new why → StopLeaves (stop_at stop.stream why) run feeds' lines
    go (Intake IntakeFault) f = (s.new, s.now, stops, arrived ∙ sym (f.1 (told_at feeds stop.stream s.old told' s.before)))
    go (Intake ByteLimit) f =
        let o = same_at feeds feeds' stop.stream s.new same s.now in
        let one = one_of 0 (streams_in job.nodes) feeds stop.stream o.0 fed o.1 in
        let bytes : get_or (files_of run.feeds) stop.stream [] ≡ bytes_of s.old = ap (λ (fs : List (List ℕ)). get_or fs stop.stream []) (sym files) ∙ bytes_of_feed feeds stop.stream s.old s.before in
        (stops, arrived ∙ (sym (f (told_at feeds stop.stream s.old told' s.before)).1 ∙ ap₂ (λ (ks : List Column) (xs : List ℕ). fed_elements ks (take (2 ^ 40) xs)) (o.2.columns ∙ one.schema) (sym bytes)))
    go (Intake OutOfMemory) f = tt
    go FlushFailed f = tt
