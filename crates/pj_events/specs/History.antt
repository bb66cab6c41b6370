-- The history of a plan: a list of entries, what it comes to, and which histories are legal.
use Rattle.std.specs.Prelude.{ℕ, ◌+◌, ◌<◌, ◌≡◌, ◌⊎◌, Bool, true, false, ◌==◌, if◌then◌else◌, List, [], ◌∷◌, ◌++◌, map, length, pred, slice_index_or, sum, Option, Some, None}
use Rattle.pj_pattern.specs.declared.element.Element.{Element}
use Rattle.pj_pattern.specs.declared.element.Element.TheVariants.{Tuple, Punct}
pub use Rattle.pj_events.specs.declared.events.Entry.{Entry}
pub use Rattle.pj_events.specs.declared.events.Event.{Event}
pub use Rattle.pj_events.specs.declared.events.Event.TheVariants.{Arrive, Take as Taken, Give as Given, Sweep as Swept, Drain, Halt, Look, Stopped, Idle}
pub use Rattle.pj_events.specs.declared.events.Stop.{Stop}
pub use Rattle.pj_events.specs.declared.events.Out.{Out}
pub use Rattle.pj_events.specs.declared.events.Out.TheVariants.{Tuple as RowOut, Punct as PunctOut, Purged}
use Rattle.pj_events.specs.Patterns.{all_wild}
use Rattle.pj_events.specs.Join.{JoinData, JoinState, Take, Give, Sweep, start, has, removed, IsSettled}
use Rattle.pj_events.specs.KeptState.{lacking}
use Rattle.pj_events.specs.Plan.{Operator, Stream, Join, Node, PlanStep, Feed, Act, Pass, batches, moved, operator_at, IsStepAllowed, Select, Project, Union, Group}

-- ---- the streams and the joins of a plan

abbrev pub is_stream : Operator → Bool
is_stream (Stream schema sent) = true
is_stream (Select test) = false
is_stream (Project columns) = false
is_stream (Union n u) = false
is_stream (Join spec s) = false
is_stream (Group spec rows) = false

-- the numbers of the nodes that are streams, from this number on
abbrev pub streams_from : ℕ → List Node → List ℕ
streams_from n [] = []
streams_from n (node ∷ nodes) = if is_stream node.operator then (n ∷ streams_from (n + 1) nodes) else streams_from (n + 1) nodes

-- the numbers of the nodes that are streams: a stream's own number is its place in this list
abbrev pub streams_of : List Node → List ℕ
streams_of nodes = streams_from 0 nodes

-- the node of a stream; where there is none, no node
abbrev pub stream_node : List Node → ℕ → ℕ
stream_node nodes stream = slice_index_or (streams_of nodes) stream (length nodes)

-- the node whose elements the plan hands out: the last
abbrev pub root_of : List Node → ℕ
root_of nodes = pred (length nodes)

-- the state of a join; of any other operator that of a join at its start
abbrev pub state_in : Operator → JoinState
state_in (Stream schema sent) = start
state_in (Select test) = start
state_in (Project columns) = start
state_in (Union n u) = start
state_in (Join spec s) = s
state_in (Group spec rows) = start

-- a join of no inputs stands for one where there is none
abbrev pub no_join : JoinData
no_join = record { shape = record { inputs = []; classes = [] }; schemes = []; certs = [] }

abbrev pub data_in : Operator → JoinData
data_in (Stream schema sent) = no_join
data_in (Select test) = no_join
data_in (Project columns) = no_join
data_in (Union n u) = no_join
data_in (Join spec s) = spec
data_in (Group spec rows) = no_join

-- the state of the join at a node
abbrev pub join_at : List Node → ℕ → JoinState
join_at nodes join = state_in (operator_at nodes join)

abbrev pub data_at : List Node → ℕ → JoinData
data_at nodes join = data_in (operator_at nodes join)

-- ---- what an event does

-- an element is fed to its stream, a ticket is taken or given or an input swept at a join; any other event does nothing
abbrev pub step_of : List Node → Event → PlanStep
step_of nodes (Arrive stream e) = Feed (stream_node nodes stream) e
step_of nodes (Taken join ticket) = Act join (Take ticket)
step_of nodes (Given join ticket) = Act join (Give ticket)
step_of nodes (Swept join input) = Act join (Sweep input)
step_of nodes _ = Pass

-- the nodes after an event
abbrev pub nodes_by : List Node → Event → List Node
nodes_by nodes event = moved (step_of nodes event) [] nodes

abbrev pub out_of : Element → Out
out_of (Tuple row) = RowOut row
out_of (Punct patterns) = PunctOut patterns

-- the notes of the rows that a sweep removes, in order of tickets
abbrev pub notes_of : List Node → Event → List Out
notes_of nodes (Swept join input) = map (λ x. Purged join input x.row) (removed (data_at nodes join) (join_at nodes join) input)
notes_of nodes _ = []

-- what the root hands up at an event
abbrev pub root_hands : List Node → Event → List Element
root_hands nodes event = slice_index_or (batches (step_of nodes event) [] nodes) (root_of nodes) []

-- what an event hands out: with a trace the notes of removed rows first, and then what the root hands up
abbrev pub gained : Bool → List Node → Event → List Out
gained trace nodes event = (if trace then notes_of nodes event else []) ++ map out_of (root_hands nodes event)

-- ---- what a history comes to

-- the nodes, the streams that are closed, what was handed out since the last drain, whether a halt came, and the stop
pub record Reached : Type 0 where
  pub nodes : List Node
  pub closed : List ℕ
  pub undrained : List Out
  pub halted : Bool
  pub stop : Option Stop

-- what the empty history comes to
abbrev pub begun : List Node → Reached
begun plan = record { nodes = plan; closed = []; undrained = []; halted = false; stop = None }

abbrev pub closed_after : List ℕ → ℕ → Event → List ℕ
closed_after closed mark (Arrive stream e) = if mark == 1 then (stream ∷ closed) else closed
closed_after closed mark _ = closed

abbrev pub undrained_after : Bool → Reached → Event → List Out
undrained_after trace r Drain = []
undrained_after trace r event = r.undrained ++ gained trace r.nodes event

abbrev pub halted_after : Bool → Event → Bool
halted_after old Halt = true
halted_after old _ = old

abbrev pub stop_after : Option Stop → Event → Option Stop
stop_after old (Stopped stop) = Some stop
stop_after old _ = old

-- what a history with one more entry comes to, with a trace or without
abbrev pub next : Bool → Reached → Entry → Reached
next trace r entry = record {
  nodes = nodes_by r.nodes entry.event;
  closed = closed_after r.closed entry.closing entry.event;
  undrained = undrained_after trace r entry.event;
  halted = halted_after r.halted entry.event;
  stop = stop_after r.stop entry.event;
}

abbrev pub reached_from : Bool → Reached → List Entry → Reached
reached_from trace r [] = r
reached_from trace r (entry ∷ entries) = reached_from trace (next trace r entry) entries

-- what a history of this plan comes to, with a trace or without
abbrev pub reached_of : Bool → List Node → List Entry → Reached
reached_of trace plan history = reached_from trace (begun plan) history

-- the nodes that entries leave
abbrev pub nodes_from : List Node → List Entry → List Node
nodes_from nodes [] = nodes
nodes_from nodes (entry ∷ entries) = nodes_from (nodes_by nodes entry.event) entries

-- the steps of the plan that entries make
abbrev pub steps_from : List Node → List Entry → List PlanStep
steps_from nodes [] = []
steps_from nodes (entry ∷ entries) = step_of nodes entry.event ∷ steps_from (nodes_by nodes entry.event) entries

-- ---- which histories are legal

-- the number of tuples at all joins that are not taken
abbrev pub pending_in : List Node → ℕ
pending_in nodes = sum (map (λ node. length (lacking (state_in node.operator).taken (state_in node.operator).tuples)) nodes)

-- the element is a punctuation of wildcards alone, and the operator a stream
abbrev pub Closes : Operator → Element → Type 0
Closes (Stream schema sent) (Tuple row) = ⊥
Closes (Stream schema sent) (Punct patterns) = patterns ≡ all_wild (length schema)
Closes (Select test) e = ⊥
Closes (Project columns) e = ⊥
Closes (Union n u) e = ⊥
Closes (Join spec s) e = ⊥
Closes (Group spec rows) e = ⊥

-- a punctuation of wildcards alone arrives at a stream
abbrev pub IsClosing : List Node → Event → Type 0
IsClosing nodes (Arrive stream e) = Closes (operator_at nodes (stream_node nodes stream)) e
IsClosing nodes _ = ⊥

-- the mark of an entry is 0, or 1 where it closes a stream
abbrev pub IsMarked : List Node → Entry → Type 0
IsMarked nodes entry = (entry.closing ≡ 0) ⊎ ((entry.closing ≡ 1) × IsClosing nodes entry.event)

-- nothing stopped
abbrev pub IsOn : Reached → Type 0
IsOn r = r.stop ≡ None

-- Which event is allowed where the history before it came to this.
-- An element arrives at a stream that is not closed, fits it, and matches no punctuation before it there.
-- A ticket is taken once, and then given once. A join is swept where it has certificates.
-- Drains and halts are allowed always; a look tells the number of pending tuples, and an idle call that there is none.
-- There is one stop, and behind it drains, halts, looks and idle calls alone, of which the last two tell nothing.
abbrev pub IsEventAllowed : Reached → Event → Type 0
IsEventAllowed r (Arrive stream e) = IsOn r × (has r.closed stream ≡ false) × IsStepAllowed r.nodes (step_of r.nodes (Arrive stream e))
IsEventAllowed r (Taken join ticket) = IsOn r × IsStepAllowed r.nodes (step_of r.nodes (Taken join ticket))
IsEventAllowed r (Given join ticket) = IsOn r × IsStepAllowed r.nodes (step_of r.nodes (Given join ticket))
IsEventAllowed r (Swept join input) = IsOn r × IsStepAllowed r.nodes (step_of r.nodes (Swept join input))
IsEventAllowed r Drain = Unit {0}
IsEventAllowed r Halt = Unit {0}
IsEventAllowed r (Look pending) = IsOn r → pending ≡ pending_in r.nodes
IsEventAllowed r (Stopped stop) = IsOn r
IsEventAllowed r Idle = IsOn r → pending_in r.nodes ≡ 0

abbrev pub IsEntryAllowed : Reached → Entry → Type 0
IsEntryAllowed r entry = IsEventAllowed r entry.event × IsMarked r.nodes entry

abbrev pub AreEntriesLegal : Reached → List Entry → Type 0
AreEntriesLegal r [] = Unit {0}
AreEntriesLegal r (entry ∷ entries) = IsEntryAllowed r entry × AreEntriesLegal (next false r entry) entries

-- each entry is allowed after those before it
abbrev pub IsLegal : List Node → List Entry → Type 0
IsLegal plan history = AreEntriesLegal (begun plan) history

-- every stream is closed, every tuple at every join is given, no punctuation waits at a join, and nothing stopped
pub record IsComplete (plan : List Node) (history : List Entry) : Type 0 where
  pub closed : (stream : ℕ) → stream < length (streams_of plan) → has (reached_of false plan history).closed stream ≡ true
  pub settled : (n : ℕ) → n < length plan → IsSettled (join_at (nodes_from plan history) n)
  pub on : IsOn (reached_of false plan history)
