-- Turns of a core.
use Rattle.pj_plan.specs.declared.node.PlanNode.{PlanNode}
use Rattle.pj_plan.specs.Nodes.{streams_of, streams_in}
use Rattle.pj_pattern.specs.declared.element.Element.{Element}
use Rattle.pj_core.specs.Plans.{RunPlan, nodes_of}
use Rattle.std.proofs.Common.{◌≡◌, ◌<◌, ℕ, List, [], ◌++◌, length, Option, Some, None, Result, Ok, Err, IfOk, IfErr, OnOk, IsTrue, refl, ap, sym, ◌∙◌, append-nil, subst, arith}
use Rattle.pj_io.specs.States.{SinkState}
use Rattle.pj_events.specs.declared.events.Entry.{Entry}
use Rattle.pj_events.specs.declared.events.Out.{Out}
use Rattle.pj_events.specs.declared.events.Stop.{Stop}
use Rattle.pj_events.specs.declared.events.Stop.TheVariants.{Limit, NoMemory}
use Rattle.pj_events.specs.Plan.{Node}
use Rattle.pj_events.specs.History.{nodes_from}
use Rattle.pj_events.specs.Outcomes.{outputs_of}
use Rattle.pj_events.specs.OneThread.{Turn, arrival_of}
use Rattle.pj_laws.proofs.Histories.{outputs-append}
use Rattle.pj_core.specs.Cores.{CoreState, StandsFor, MayFollow}
use Rattle.pj_core.specs.Calls.{IsTurnRefused, MakesTurn, StopsInTurn}
use Rattle.pj_feed.specs.declared.feeds.Arrival.{Arrival}
use Rattle.pj_feed.specs.declared.feeds.Arrival.TheVariants.{Brought, Closing}
use Rattle.pj_report.specs.declared.stops.WriteStop.{WriteStop}
use Rattle.pj_report.specs.declared.stops.WriteStop.TheVariants.{Failed, NoMemory as WriteMemory}
use Rattle.pj_feed.specs.Feeds.{turn_in}
use Rattle.pj_report.specs.declared.writer.Form.{Form}
use Rattle.pj_report.specs.declared.writer.ResultWriter.{ResultWriter}
use Rattle.pj_report.specs.Forms.{shown, taken_so_far}
use Rattle.pj_run.specs.Stops.{end_of, of_core, of_write}
use Rattle.pj_run.specs.declared.stops.TurnStop.{TurnStop}
use Rattle.pj_run.specs.declared.stops.TurnStop.TheVariants.{Limit as TurnLimit, WriteFailed as TurnFailed, NoMemory as TurnMemory, Cut as TurnCut}
use Rattle.pj_events.specs.Outcomes.{elements_out}
use Rattle.pj_run.specs.Turning.{IsTurnOf, CutsTurn, StopsBehind, Turned, TurnDone, TurnStops, TurnStopsBehind, turn_outs}
use Rattle.pj_run.specs.Cuts.{turn_cut}
use Rattle.pj_report.specs.Written.{anywhere, between, flat, Cut, FrontOf, Leaves, WritesBy, write_cut}
use Rattle.pj_run.proofs.Carried.{write_cut_same}
use Rattle.pj_report.proofs.Forms.{shown-append}
use Rattle.pj_report.proofs.LinesWritten.{first_written, stop_first}
use Rattle.pj_feed.proofs.StreamNodes.{count_numbers}

-- ---- what a turn needs, and what stays

-- the stream that a turn brings an element to, or closes, is one of the plan's
pub brings_there : (nodes : List PlanNode) (next : Arrival) (stream : ℕ) (element : Element) → next ≡ Brought stream element → IsTurnOf (streams_in nodes) (turn_in (streams_in nodes) next) → stream < length (streams_of nodes)
brings_there nodes next stream element is of =
    let count = count_numbers nodes in
    let there = (subst (λ (a : Arrival). IsTurnOf (streams_in nodes) (turn_in (streams_in nodes) a)) is of).0 in omega (arith, count, there)

pub closes_there : (nodes : List PlanNode) (next : Arrival) (stream : ℕ) → next ≡ Closing stream → IsTurnOf (streams_in nodes) (turn_in (streams_in nodes) next) → stream < length (streams_of nodes)
closes_there nodes next stream is of =
    let count = count_numbers nodes in
    let there = (subst (λ (a : Arrival). IsTurnOf (streams_in nodes) (turn_in (streams_in nodes) a)) is of).0 in omega (arith, count, there)

refused_plan : (before : Option Stop) (old new : CoreState) (turn : Turn) (stop : Stop) → IsTurnRefused before old new turn stop → new.plan ≡ old.plan
refused_plan None old new turn stop refused = refused.plan
refused_plan (Some s) old new turn stop refused = ap (λ (c : CoreState). c.plan) refused.stays

-- the plan stays, whether the turn was made or refused
pub turn_plan : (old new : CoreState) (turn : Turn) (result : Result (List Out) Stop) → IfOk result (λ outs. MakesTurn old new turn outs) → IfErr result (λ stop. IsTurnRefused old.kept.stop old new turn stop) → new.plan ≡ old.plan
turn_plan old new turn (Ok outs) made refused = made.plan
turn_plan old new turn (Err stop) made refused = refused_plan old.kept.stop old new turn stop refused

pub same_nodes : {old new : RunPlan} → new ≡ old → new.nodes ≡ old.nodes
same_nodes same = ap (λ (p : RunPlan). p.nodes) same

-- ---- what a turn hands out

stops_now : (old mid : CoreState) (turn : Turn) (stop : Stop) (outs : List Out) → old.kept.undrained ≡ [] → StopsInTurn old mid turn stop → outs ≡ mid.kept.undrained → StopsBehind old turn outs stop
stops_now old mid turn stop outs drained s handed = record {
  hands = λ history stands may.
      let f = s.takes history stands may in
      record {
        front = f.front;
        back = f.back;
        parts = f.parts;
        within = f.within;
        stops = f.stops;
        outs_are = handed ∙ (f.undrained ∙ ap (λ (xs : List Out). xs ++ outputs_of old.plan.trace (nodes_from (nodes_of old.plan) history) f.front) drained);
      };
}

-- a core that was on and drained stops in the turn
pub stops_behind : (before : Option Stop) (old mid : CoreState) (turn : Turn) (stop : Stop) (outs : List Out) → before ≡ None → old.kept.undrained ≡ [] → IsTurnRefused before old mid turn stop → outs ≡ mid.kept.undrained → StopsBehind old turn outs stop
stops_behind None old mid turn stop outs on drained refused handed = stops_now old mid turn stop outs drained refused handed
stops_behind (Some s) old mid turn stop outs on drained refused handed = absurd (cc)

-- what is handed out is a front of the turn's
outs_front : (old new : CoreState) (turn : Turn) (outs : List Out) (stop : Option Stop) (history : List Entry) → old.kept.undrained ≡ [] → Turned old new turn outs stop → StandsFor old history → MayFollow old history (arrival_of turn)
    → (others : List Out) × (outs ++ others ≡ turn_outs old history turn)
outs_front old new turn outs None history drained turned stands may =
    ([], append-nil outs ∙ (turned.hands history stands may ∙ ap (λ (xs : List Out). xs ++ turn_outs old history turn) drained))
outs_front old new turn outs (Some stop) history drained turned stands may =
    let f = turned.hands history stands may in
    let nodes : List Node = nodes_from (nodes_of old.plan) history in
    let others : List Out = outputs_of old.plan.trace (nodes_from nodes f.front) f.back in
    (others, ap (λ (xs : List Out). xs ++ others) f.outs_are ∙ (sym (outputs-append old.plan.trace nodes f.front f.back) ∙ ap (outputs_of old.plan.trace nodes) (sym f.parts)))

-- a turn that was made hands out all
whole_turn : (old new : CoreState) (turn : Turn) (outs : List Out) (stop : Option Stop) (history : List Entry) → stop ≡ None → old.kept.undrained ≡ [] → Turned old new turn outs stop → StandsFor old history → MayFollow old history (arrival_of turn)
    → outs ≡ turn_outs old history turn
whole_turn old new turn outs stop history none drained turned stands may =
    let made = subst (Turned old new turn outs) none turned in
    made.hands history stands may ∙ ap (λ (xs : List Out). xs ++ turn_outs old history turn) drained

module _ (form : Form) (old new : CoreState) (turn : Turn) (outs slice : List Out) (stop : Option Stop) (history : List Entry) (drained : old.kept.undrained ≡ []) (turned : Turned old new turn outs stop) (is : slice ≡ outs) (stands : StandsFor old history) (may : MayFollow old history (arrival_of turn)) where
  lines_front : (others : List Out) × (shown form old.plan.nodes slice ++ shown form old.plan.nodes others ≡ shown form old.plan.nodes (turn_outs old history turn))
  lines_front =
      let f = outs_front old new turn outs stop history drained turned stands may in
      (f.0, ap (λ (xs : List Out). shown form old.plan.nodes xs ++ shown form old.plan.nodes f.0) is ∙ (sym (shown-append form old.plan.nodes outs f.0) ∙ ap (shown form old.plan.nodes) f.1))

  -- a stop while the lines are written
  pub write_stopped : (why : WriteStop) (before after : List ℕ) → Leaves (write_cut why) (shown form old.plan.nodes slice) before after → Leaves (turn_cut (of_write why)) (shown form old.plan.nodes (turn_outs old history turn)) before after
  write_stopped why before after written =
      subst (λ (cut : Cut). Leaves cut (shown form old.plan.nodes (turn_outs old history turn)) before after) (sym (write_cut_same why))
      (stop_first (write_cut why) (shown form old.plan.nodes slice) (shown form old.plan.nodes lines_front.0) (shown form old.plan.nodes (turn_outs old history turn)) before after written lines_front.1)

  -- the lines that the turn's end leaves
  pub end_leaves : (written : Result (Unit {0}) WriteStop) (given : Option Stop) (result : Result (Unit {0}) TurnStop) (before after : SinkState) → given ≡ stop → result ≡ end_of written given
      → WritesBy write_cut (shown form old.plan.nodes slice) before after written → WritesBy turn_cut (shown form old.plan.nodes (turn_outs old history turn)) before after result
  end_leaves written given result before after same gives wrote = subst (WritesBy turn_cut (shown form old.plan.nodes (turn_outs old history turn)) before after) (sym gives) (go written given same wrote)
    where
      all : List (List ℕ)
      all = shown form old.plan.nodes (turn_outs old history turn)

      none_stopped : stop ≡ None → shown form old.plan.nodes slice ≡ all
      none_stopped none = ap (shown form old.plan.nodes) (is ∙ whole_turn old new turn outs stop history none drained turned stands may)

      go : (w : Result (Unit {0}) WriteStop) (g : Option Stop) → g ≡ stop → WritesBy write_cut (shown form old.plan.nodes slice) before after w → WritesBy turn_cut all before after (end_of w g)
      go (Ok u) None e wrote = wrote ∙ ap (λ (ls : List (List ℕ)). before.written ++ flat ls) (none_stopped (sym e))
      go (Err why) None e wrote = write_stopped why before.written after.written wrote
      go (Ok u) (Some why) e wrote = first_written (turn_cut (of_core why)) (shown form old.plan.nodes slice) (shown form old.plan.nodes lines_front.0) all before.written after.written wrote lines_front.1
      go (Err Failed) (Some why) e wrote = stop_first anywhere (shown form old.plan.nodes slice) (shown form old.plan.nodes lines_front.0) all before.written after.written wrote lines_front.1
      go (Err WriteMemory) (Some why) e wrote = stop_first between (shown form old.plan.nodes slice) (shown form old.plan.nodes lines_front.0) all before.written after.written wrote lines_front.1

-- a failed write says no more of the turn
pub write_stops : (why : WriteStop) (form : Form) (core : CoreState) (history : List Entry) (turn : Turn) (old new : SinkState) → TurnStops (of_write why) form core history turn old new
write_stops Failed form core history turn old new = tt
write_stops WriteMemory form core history turn old new = tt

-- at a limit exactly the lines of what came before it were written
pub core_stops : (why : Stop) (form : Form) (core : CoreState) (turn : Turn) (outs slice : List Out) (old new : SinkState) → StopsBehind core turn outs why → slice ≡ outs → (IsTrue new.told → new.written ≡ old.written ++ flat (shown form core.plan.nodes slice))
    → (history : List Entry) → StandsFor core history → MayFollow core history (arrival_of turn) → TurnStops (of_core why) form core history turn old new
core_stops (Limit node) form core turn outs slice old new stops is written history stands may =
    let f = stops.hands history stands may in
    record {
      breaks = record { front = f.front; back = f.back; parts = f.parts; within = f.within; beyond = f.stops };
      written = λ told. written told ∙ ap (λ (os : List Out). old.written ++ flat (shown form core.plan.nodes os)) (is ∙ f.outs_are);
    }
core_stops NoMemory form core turn outs slice old new stops is written history stands may = tt

-- where the output failed then, a front of these lines was written
pub cut_stops : (why : Stop) (form : Form) (core : CoreState) (turn : Turn) (outs slice : List Out) (old new : SinkState) → StopsBehind core turn outs why → slice ≡ outs → (IsTrue new.told → FrontOf (flat (shown form core.plan.nodes slice)) old.written new.written)
    → (history : List Entry) → StandsFor core history → MayFollow core history (arrival_of turn) → CutsTurn why form core history turn old new
cut_stops (Limit node) form core turn outs slice old new stops is written history stands may =
    let f = stops.hands history stands may in
    record {
      breaks = record { front = f.front; back = f.back; parts = f.parts; within = f.within; beyond = f.stops };
      written = λ told. subst (λ (os : List Out). FrontOf (flat (shown form core.plan.nodes os)) old.written new.written) (is ∙ f.outs_are) (written told);
    }
cut_stops NoMemory form core turn outs slice old new stops is written history stands may = tt

-- what the turn's end says of the stop
pub end_stops : (form : Form) (old new : CoreState) (turn : Turn) (outs slice : List Out) (given : Option Stop) (written : Result (Unit {0}) WriteStop) (result : Result (Unit {0}) TurnStop) (before after : SinkState) → Turned old new turn outs given → slice ≡ outs
    → result ≡ end_of written given → (IsTrue after.told → WritesBy write_cut (shown form old.plan.nodes slice) before after written)
    → IfErr result (λ stop. TurnStopsBehind stop form old turn before after)
end_stops form old new turn outs slice given written result before after turned is gives wrote = subst (λ (r : Result (Unit {0}) TurnStop). IfErr r (λ stop. TurnStopsBehind stop form old turn before after)) (sym gives) (go given written turned wrote)
  where
    go : (g : Option Stop) (w : Result (Unit {0}) WriteStop) → Turned old new turn outs g → (IsTrue after.told → WritesBy write_cut (shown form old.plan.nodes slice) before after w) → IfErr (end_of w g) (λ stop. TurnStopsBehind stop form old turn before after)
    go None (Ok u) turned wrote = tt
    go None (Err why) turned wrote = λ history stands may. write_stops why form old history turn before after
    go (Some stop) (Ok u) turned wrote = core_stops stop form old turn outs slice before after turned is wrote
    go (Some stop) (Err Failed) turned wrote = cut_stops stop form old turn outs slice before after turned is wrote
    go (Some stop) (Err WriteMemory) turned wrote = λ history stands may. tt

-- a turn without a stop was made, and the writer has taken what it handed out
pub end_done : (old new : CoreState) (turn : Turn) (outs slice : List Out) (given : Option Stop) (written : Result (Unit {0}) WriteStop) (result : Result (Unit {0}) TurnStop) (first then : ResultWriter) → Turned old new turn outs given → slice ≡ outs → result ≡ end_of written given
    → OnOk written ((form : Form) (before : List Element) → first ≡ taken_so_far form before → then ≡ taken_so_far form (before ++ elements_out slice)) → OnOk result (TurnDone old new turn first then)
end_done old new turn outs slice given written result first then turned is gives taken = subst (λ (r : Result (Unit {0}) TurnStop). OnOk r (TurnDone old new turn first then)) (sym gives) (go given written turned taken)
  where
    go : (g : Option Stop) (w : Result (Unit {0}) WriteStop) → Turned old new turn outs g → OnOk w ((form : Form) (before : List Element) → first ≡ taken_so_far form before → then ≡ taken_so_far form (before ++ elements_out slice)) → OnOk (end_of w g) (TurnDone old new turn first then)
    go None (Ok u) turned taken = record { outs = outs; makes = turned; taken = λ form es same. taken form es same ∙ ap (λ (os : List Out). taken_so_far form (es ++ elements_out os)) is }
    go None (Err why) turned taken = tt
    go (Some stop) (Ok u) turned taken = tt
    go (Some stop) (Err Failed) turned taken = tt
    go (Some stop) (Err WriteMemory) turned taken = tt

-- the sink's faults rose with a write that failed, behind a stop or not
pub end_fault : (given : Option Stop) (written : Result (Unit {0}) WriteStop) (result : Result (Unit {0}) TurnStop) (rose : Type 0) → result ≡ end_of written given → (written ≡ Err Failed → rose) → result ≡ Err TurnFailed → rose
end_fault None (Ok u) result rose gives failed is = absurd (let e : Ok u ≡ Err TurnFailed = sym gives ∙ is in cc)
end_fault None (Err Failed) result rose gives failed is = failed refl
end_fault None (Err WriteMemory) result rose gives failed is = absurd (let e : Err TurnMemory ≡ Err TurnFailed = sym gives ∙ is in cc)
end_fault (Some (Limit node)) (Ok u) result rose gives failed is = absurd (let e : Err (TurnLimit node) ≡ Err TurnFailed = sym gives ∙ is in cc)
end_fault (Some NoMemory) (Ok u) result rose gives failed is = absurd (let e : Err TurnMemory ≡ Err TurnFailed = sym gives ∙ is in cc)
end_fault (Some stop) (Err Failed) result rose gives failed is = failed refl
end_fault (Some stop) (Err WriteMemory) result rose gives failed is = absurd (let e : Err TurnMemory ≡ Err TurnFailed = sym gives ∙ is in cc)

pub end_cut : (given : Option Stop) (written : Result (Unit {0}) WriteStop) (result : Result (Unit {0}) TurnStop) (stop : Stop) (rose : Type 0) → result ≡ end_of written given → (written ≡ Err Failed → rose) → result ≡ Err (TurnCut stop) → rose
end_cut given (Err Failed) result stop rose gives failed is = failed refl
end_cut None (Ok u) result stop rose gives failed is = absurd (let e : Ok u ≡ Err (TurnCut stop) = sym gives ∙ is in cc)
end_cut None (Err WriteMemory) result stop rose gives failed is = absurd (let e : Err TurnMemory ≡ Err (TurnCut stop) = sym gives ∙ is in cc)
end_cut (Some (Limit node)) (Ok u) result stop rose gives failed is = absurd (let e : Err (TurnLimit node) ≡ Err (TurnCut stop) = sym gives ∙ is in cc)
end_cut (Some NoMemory) (Ok u) result stop rose gives failed is = absurd (let e : Err TurnMemory ≡ Err (TurnCut stop) = sym gives ∙ is in cc)
end_cut (Some other) (Err WriteMemory) result stop rose gives failed is = absurd (let e : Err TurnMemory ≡ Err (TurnCut stop) = sym gives ∙ is in cc)
