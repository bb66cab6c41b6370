-- What the calls of a core answer, and what they make of it.
use Rattle.std.specs.Prelude.{ℕ, ◌+◌, ◌<◌, ◌≡◌, true, false, List, [], ◌∷◌, ◌++◌, map, length, slice_index_or, sum, Option, Some, None}
use Rattle.pj_plan.specs.Nodes.{inputs_of, is_join, streams_of, stream_columns, streams_in}
use Rattle.pj_value.specs.declared.values.Value.{Value}
use Rattle.pj_plan.specs.Canonical.{node_at, node_schema}
use Rattle.pj_plan.specs.Sound.{IsSoundPlan}
use Rattle.pj_pattern.specs.declared.element.Element.{Element}
use Rattle.pj_pattern.specs.declared.element.Element.TheVariants.{Punct}
use Rattle.pj_events.specs.Patterns.{all_wild}
use Rattle.pj_events.specs.CoreKept.{NothingKept}
use Rattle.pj_events.specs.declared.events.Entry.{Entry}
use Rattle.pj_events.specs.declared.events.Event.{Event}
use Rattle.pj_events.specs.declared.events.Event.TheVariants.{Take as Taken, Give as Given, Sweep as Swept, Look as Looked, Stopped, Idle}
use Rattle.pj_events.specs.declared.events.Look.{Look}
use Rattle.pj_events.specs.declared.events.Out.{Out}
use Rattle.pj_events.specs.declared.events.Stop.{Stop}
use Rattle.pj_events.specs.declared.events.Stop.TheVariants.{Limit, NoMemory}
use Rattle.pj_events.specs.Join.{In}
use Rattle.pj_events.specs.History.{nodes_by, pending_in, reached_of}
use Rattle.pj_events.specs.Outcomes.{goes_beyond, outputs_of, peak_of, results_of, stored_at, stored_in, opened_in, waiting_in, ended_of}
use Rattle.pj_events.specs.Limits.{StaysWithin, StopsAt}
use Rattle.pj_events.specs.OneThread.{Turn, arrival_of, next_probe, plain, turn_entries}
use Rattle.pj_laws.specs.HistoryLaws.{AllAreCertified}
use Rattle.pj_laws.specs.Seats.{IsUnderWay}
use Rattle.pj_probe.specs.declared.probe.Found.{Found}
use Rattle.pj_operator.specs.Operators.{IsTakenIn, pending_kept}
use Rattle.pj_core.specs.Cores.{CoreState, MayFollow, Notes, NotesAllowed, StandsFor, nodes_after, nodes_in}
use Rattle.pj_core.specs.Plans.{RunPlan}

-- ---- a new core

-- nothing has happened yet at a core of this sound plan, each of whose joins has certificates
pub record IsFresh (core : CoreState) (plan : RunPlan) (limit : ℕ) : Type 0 where
  pub of_plan : core.plan ≡ plan
  pub with_limit : core.limit ≡ limit
  pub sound : IsSoundPlan core.plan.nodes
  pub certified : AllAreCertified (nodes_in core)
  pub undrained : core.kept.undrained ≡ []
  pub halted : core.kept.halted ≡ false
  pub on : core.kept.stop ≡ None
  pub stands : StandsFor core []

-- ---- stops

-- the event brings no element beyond the limit
abbrev pub HasRoomFor : CoreState → Event → Type 0
HasRoomFor core event = (history : List Entry) → StandsFor core history → goes_beyond core.limit (nodes_in core) history event ≡ None

-- a limit stops the event that brings one element beyond it, at that node; memory may be wanting at any time
abbrev pub IsCause : CoreState → Event → Stop → Type 0
IsCause core event (Limit node) =
    (history : List Entry) → StandsFor core history → goes_beyond core.limit (nodes_in core) history event ≡ Some node
IsCause core event NoMemory = Unit {0}

-- the core stops now, and what it has to hand out stays
pub record StopsNow (old new : CoreState) (stop : Stop) : Type 0 where
  pub notes : Notes old new (plain (Stopped stop))
  pub stopped : new.kept.stop ≡ Some stop
  pub undrained : new.kept.undrained ≡ old.kept.undrained

-- a core that stopped before answers that stop again and stays as it is
pub record StaysStopped (old new : CoreState) (before stop : Stop) : Type 0 where
  pub again : stop ≡ before
  pub stays : new ≡ old
  pub notes : Notes old new (plain Idle)

-- the answer is the stop that was answered before; where there was none the core stops now, for this cause
abbrev pub IsRefused : Option Stop → CoreState → CoreState → Stop → Type 0 → Type 0
IsRefused None old new stop cause = StopsNow old new stop × cause
IsRefused (Some before) old new stop cause = StaysStopped old new before stop

-- ---- arrivals

-- the element has arrived, and none went beyond the limit
pub record HasArrived (old new : CoreState) (entry : Entry) : Type 0 where
  pub on : (old.kept.stop ≡ None) × (new.kept.stop ≡ None)
  pub notes : NotesAllowed old new entry
  pub within : HasRoomFor old entry.event

-- ---- probes

-- the probe was taken from the core, and its ticket is not given
abbrev pub IsOpen : CoreState → Found → Type 0
IsOpen core probe = IsTakenIn (slice_index_or core.kept.nodes probe.join NothingKept) probe.ticket

-- each of these rows has as many columns as the node
abbrev pub FitNode : CoreState → ℕ → List (List Value) → Type 0
FitNode core n rows = (row : List Value) → In row rows → length row ≡ length (node_schema core.plan.nodes n)

-- the results of a ticket that is under way in a history that a core stands for have as many columns as their join
abbrev pub FitWhatIsUnderWay : Type 0
FitWhatIsUnderWay = (core : CoreState) → IsSoundPlan core.plan.nodes → (history : List Entry) → StandsFor core history
    → (probe : Found) → IsUnderWay (nodes_in core) history probe.join probe.ticket → FitNode core probe.join (results_of (nodes_in core) history probe.join probe.ticket)

-- a probe whose ticket is under way in a history that a core stands for is open there, while nothing stopped
abbrev pub OpensWhatIsUnderWay : Type 0
OpensWhatIsUnderWay = (core : CoreState) → IsSoundPlan core.plan.nodes → core.kept.stop ≡ None → (history : List Entry) → StandsFor core history
    → (probe : Found) → IsUnderWay (nodes_in core) history probe.join probe.ticket → IsOpen core probe

-- how many tickets are pending at all nodes
abbrev pub all_pending : CoreState → ℕ
all_pending core = sum (map pending_kept core.kept.nodes)

-- nothing is pending, and the core stays as it is
pub record FindsNone (old new : CoreState) : Type 0 where
  pub none : (history : List Entry) → StandsFor old history → next_probe (nodes_after old history) ≡ None
  pub pending : all_pending old ≡ 0
  pub stays : new ≡ old
  pub notes : Notes old new (plain Idle)

-- the probe is that of the next ticket, its work finds the results of the ticket over all that arrived, and nothing goes beyond
-- the limit
pub record TakesNext (old new : CoreState) (probe : Found) : Type 0 where
  pub next : (history : List Entry) → StandsFor old history
      → next_probe (nodes_after old history) ≡ Some (record { join = probe.join; ticket = probe.ticket })
  pub finds : (history : List Entry) → StandsFor old history → probe.rows ≡ results_of (nodes_in old) history probe.join probe.ticket
  pub keeps : (history : List Entry) → StandsFor old history
      → probe.rows ≡ results_of (nodes_in new) (history ++ plain (Taken probe.join probe.ticket) ∷ []) probe.join probe.ticket
  pub opens : IsOpen new probe
  pub fits : FitNode new probe.join probe.rows
  pub within : HasRoomFor old (Taken probe.join probe.ticket)
  pub notes : Notes old new (plain (Taken probe.join probe.ticket))
  pub on : new.kept.stop ≡ None
  pub undrained : new.kept.undrained ≡ old.kept.undrained
  pub fewer : all_pending new < all_pending old

-- none where nothing is pending, else the next
abbrev pub CoreTakes : CoreState → CoreState → Option Found → Type 0
CoreTakes old new None = FindsNone old new
CoreTakes old new (Some probe) = TakesNext old new probe

-- the rows are the results of the probe's ticket
abbrev pub AreResults : CoreState → List Entry → Found → Found → Type 0
AreResults core history probe found = found.rows ≡ results_of (nodes_in core) history probe.join probe.ticket

-- where the rows are the results of the ticket, the ticket is given, and what its join hands up went as far as it goes, within
-- the limit
pub record HasGiven (old new : CoreState) (probe found : Found) : Type 0 where
  pub on : (old.kept.stop ≡ None) × (new.kept.stop ≡ None)
  pub plan : new.plan ≡ old.plan
  pub limit : new.limit ≡ old.limit
  pub within : (history : List Entry) → StandsFor old history → AreResults old history probe found
      → goes_beyond old.limit (nodes_in old) history (Given probe.join probe.ticket) ≡ None
  pub stands : (history : List Entry) → StandsFor old history → AreResults old history probe found
      → StandsFor new (history ++ plain (Given probe.join probe.ticket) ∷ [])

-- a limit stops the give that brings one element beyond it, at that node, where the rows are the results
abbrev pub IsGiveCause : CoreState → Found → Found → Stop → Type 0
IsGiveCause core probe found (Limit node) =
    (history : List Entry) → StandsFor core history → AreResults core history probe found
    → goes_beyond core.limit (nodes_in core) history (Given probe.join probe.ticket) ≡ Some node
IsGiveCause core probe found NoMemory = Unit {0}

-- ---- sweeps

-- the node is a join of the core's plan
abbrev pub IsJoinNode : CoreState → ℕ → Type 0
IsJoinNode core join = (join < length core.plan.nodes) × (is_join (node_at core.plan.nodes join) ≡ true)

-- the node is a join of the core's plan, and has such an input
abbrev pub IsJoinInput : CoreState → ℕ → ℕ → Type 0
IsJoinInput core join input = IsJoinNode core join × (input < length (inputs_of (node_at core.plan.nodes join)))

-- the number of tuples stored at a join before the sweep of an input, and after it
abbrev pub stored_before : CoreState → List Entry → ℕ → ℕ
stored_before core history join = stored_at (nodes_after core history) join

abbrev pub stored_behind : CoreState → List Entry → ℕ → ℕ → ℕ
stored_behind core history join input = stored_at (nodes_by (nodes_after core history) (Swept join input)) join

-- the input of the join was swept, and so many tuples were removed; what the join hands up went as far as it goes
pub record HasSwept (old new : CoreState) (join input count : ℕ) : Type 0 where
  pub on : (old.kept.stop ≡ None) × (new.kept.stop ≡ None)
  pub notes : Notes old new (plain (Swept join input))
  pub within : HasRoomFor old (Swept join input)
  pub removes : (history : List Entry) → StandsFor old history → count + stored_behind old history join input ≡ stored_before old history join

-- ---- which steps are allowed

-- while nothing stopped, the sweep of an input of a join may follow each history that the core stands for
abbrev pub SweepsMayFollow : CoreState → Type 0
SweepsMayFollow core =
    core.kept.stop ≡ None → (history : List Entry) → StandsFor core history → (join input : ℕ) → IsJoinInput core join input
    → MayFollow core history (plain (Swept join input))

-- and so may the give of a ticket that is under way there
abbrev pub GivesMayFollow : CoreState → Type 0
GivesMayFollow core =
    core.kept.stop ≡ None → (history : List Entry) → StandsFor core history → (join ticket : ℕ) → IsUnderWay (nodes_in core) history join ticket
    → MayFollow core history (plain (Given join ticket))

-- ---- looks

-- what a look tells of a core that has not stopped; what is not given is taken or pending
pub record Tells (core : CoreState) (history : List Entry) (look : Look) : Type 0 where
  pub pending : look.pending ≡ pending_in (nodes_after core history)
  pub taken : look.taken + look.pending ≡ opened_in (nodes_after core history)
  pub stored : look.stored ≡ stored_in (nodes_after core history)
  pub waiting : look.waiting ≡ waiting_in (nodes_after core history)
  pub ended : look.ended ≡ ended_of (length (streams_of core.plan.nodes)) (reached_of false (nodes_in core) history).closed

-- the outputs, the streams and the stop are always told, the other numbers while nothing stopped
pub record IsLookAt (core : CoreState) (look : Look) : Type 0 where
  pub outputs : look.outputs ≡ length core.kept.undrained
  pub halted : look.halted ≡ core.kept.halted
  pub stop : look.stop ≡ core.kept.stop
  pub streams : look.streams ≡ length (streams_of core.plan.nodes)
  pub tells : core.kept.stop ≡ None → (history : List Entry) → StandsFor core history → Tells core history look
  pub notes : Notes core core (plain (Looked look.pending))

-- the greatest number of tuples that was stored at a join, while nothing stopped
abbrev pub IsPeak : CoreState → ℕ → ℕ → Type 0
IsPeak core join peak =
    core.kept.stop ≡ None → (history : List Entry) → StandsFor core history → peak ≡ peak_of (nodes_in core) history join

-- ---- turns

-- the turn that brings an element to a stream
abbrev pub arriving_of : ℕ → Element → Turn
arriving_of stream element = record { stream = stream; element = element; closing = 0 }

-- the turn that closes a stream, by a punctuation with a wildcard for each of its columns
abbrev pub closing_of : CoreState → ℕ → Turn
closing_of core stream = record { stream = stream; element = Punct (all_wild (length (stream_columns (streams_in core.plan.nodes) stream))); closing = 1 }

-- the entries of the turn behind this history
abbrev pub turn_behind : CoreState → List Entry → Turn → List Entry
turn_behind core history turn = turn_entries true (nodes_after core history) turn

-- none of the turn's entries brings an element beyond the limit
abbrev pub TurnStaysWithin : CoreState → List Entry → Turn → Type 0
TurnStaysWithin core history turn = StaysWithin core.limit (nodes_in core) history (turn_behind core history turn)

-- the whole turn was made within the limit, and all that was not drained is handed out with what the turn gained
pub record MakesTurn (old new : CoreState) (turn : Turn) (outs : List Out) : Type 0 where
  pub on : (old.kept.stop ≡ None) × (new.kept.stop ≡ None)
  pub plan : new.plan ≡ old.plan
  pub limit : new.limit ≡ old.limit
  pub undrained : new.kept.undrained ≡ []
  pub within : (history : List Entry) → StandsFor old history → MayFollow old history (arrival_of turn) → TurnStaysWithin old history turn
  pub stands : (history : List Entry) → StandsFor old history → MayFollow old history (arrival_of turn)
      → StandsFor new (history ++ turn_behind old history turn)
  pub hands : (history : List Entry) → StandsFor old history → MayFollow old history (arrival_of turn)
      → outs ≡ old.kept.undrained ++ outputs_of old.plan.trace (nodes_after old history) (turn_behind old history turn)

-- a front of the turn was made within the limit before the core stopped, and what it gained is not drained;
-- where a limit stopped it, the first entry behind the front goes beyond
pub record MakesFront (old new : CoreState) (history : List Entry) (turn : Turn) (stop : Stop) : Type 0 where
  pub front : List Entry
  pub back : List Entry
  pub parts : turn_behind old history turn ≡ front ++ back
  pub within : StaysWithin old.limit (nodes_in old) history front
  pub stops : StopsAt old.limit (nodes_in old) (history ++ front) back stop
  pub stands : StandsFor new (history ++ front ++ plain (Stopped stop) ∷ [])
  pub undrained : new.kept.undrained ≡ old.kept.undrained ++ outputs_of old.plan.trace (nodes_after old history) front

pub record StopsInTurn (old new : CoreState) (turn : Turn) (stop : Stop) : Type 0 where
  pub plan : new.plan ≡ old.plan
  pub limit : new.limit ≡ old.limit
  pub stopped : new.kept.stop ≡ Some stop
  pub takes : (history : List Entry) → StandsFor old history → MayFollow old history (arrival_of turn) → MakesFront old new history turn stop

-- the answer is the stop that was answered before; where there was none the core stops in the turn
abbrev pub IsTurnRefused : Option Stop → CoreState → CoreState → Turn → Stop → Type 0
IsTurnRefused None old new turn stop = StopsInTurn old new turn stop
IsTurnRefused (Some before) old new turn stop = StaysStopped old new before stop
