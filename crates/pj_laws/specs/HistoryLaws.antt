-- What holds of every legal history of a plan.
use Rattle.std.specs.Prelude.{ℕ, ◌<◌, ◌≡◌, Bool, true, false, List, [], ◌∷◌, ◌++◌, map, length, max, slice_index_or, ◌↔◌, Some, None}
use Rattle.pj_shape.specs.Columns.{domains_of}
use Rattle.pj_pattern.specs.Fitting.{FitsDomains}
use Rattle.pj_pattern.specs.Elements.{IsLawful}
use Rattle.pj_value.specs.Bags.{SameBag, SubBag}
use Rattle.pj_value.specs.declared.values.Value.{Value}
use Rattle.pj_shape.specs.declared.columns.Column.{Column}
use Rattle.pj_events.specs.Patterns.{all_wild}
use Rattle.pj_events.specs.Join.{AreCertified, AreLegalSteps, start, In, JoinData, JoinState, Element, run, outputs, Punct, AllGiven, has, rows_of, puncts_of, upto_from}
use Rattle.pj_events.specs.Plan.{Operator, Stream, Join, Group, Node, batches, operator_at, Select, Project, Union}
use Rattle.pj_events.specs.declared.events.Entry.{Entry}
use Rattle.pj_events.specs.declared.events.Event.{Event}
use Rattle.pj_events.specs.declared.events.Event.TheVariants.{Take as Taken, Give as Given}
use Rattle.pj_events.specs.History.{pending_in, streams_of, stream_node, IsOn, join_at, step_of, nodes_by, gained, next, reached_of, nodes_from, IsEntryAllowed, IsLegal, IsComplete}
use Rattle.pj_events.specs.Outcomes.{arrivals_by, join_steps_by, join_steps_of, arrivals_at, stored_at, peak_of, elements_out, rows_out, outputs_of, elements_of, drained_of, answer_of, lists_of}
use Rattle.pj_events.specs.Punctuations.{puncts_answer, puncts_lists}
use Rattle.pj_events.specs.OneThread.{Turn, heads, tails, in_rounds, turns_entries, Pending, plain, probes, next_probe, schema_of, one_thread_of}

-- What is handed out is lawful: no row matches a punctuation before it
abbrev pub HandsOutLawfully : List Node → Type 0
HandsOutLawfully plan = (trace : Bool) (history : List Entry) → IsLegal plan history → IsLawful (elements_out (outputs_of trace plan history))

abbrev pub IsNoGroup : Operator → Type 0
IsNoGroup (Stream schema sent) = Unit {0}
IsNoGroup (Select test) = Unit {0}
IsNoGroup (Project columns) = Unit {0}
IsNoGroup (Union n u) = Unit {0}
IsNoGroup (Join spec s) = Unit {0}
IsNoGroup (Group spec rows) = ⊥

-- the plan has no group
abbrev pub HasNoGroup : List Node → Type 0
HasNoGroup plan = (n : ℕ) → n < length plan → IsNoGroup (operator_at plan n)

-- every tuple at every join is given
abbrev pub AllAreGiven : List Node → List Entry → Type 0
AllAreGiven plan history = (n : ℕ) → n < length plan → AllGiven (join_at (nodes_from plan history) n)

-- Once every tuple is given, with or without sweeps, the rows handed out are the nested-loop answer over all that arrived, as a bag
abbrev pub GivenIsAnswer : List Node → Type 0
GivenIsAnswer plan =
    (trace : Bool) (history : List Entry) → IsLegal plan history → AllAreGiven plan history
    → SameBag (rows_out (outputs_of trace plan history)) (answer_of plan (lists_of plan history))

-- The rows that a complete history hands out are the nested-loop answer over all that arrived, as a bag
abbrev pub CompleteIsAnswer : List Node → Type 0
CompleteIsAnswer plan =
    (trace : Bool) (history : List Entry) → IsLegal plan history → IsComplete plan history
    → SameBag (rows_out (outputs_of trace plan history)) (answer_of plan (lists_of plan history))

-- The punctuations that a complete history hands out are the plan's over all that arrived, as a bag
abbrev pub CompleteIsPuncts : List Node → Type 0
CompleteIsPuncts plan =
    (trace : Bool) (history : List Entry) → IsLegal plan history → IsComplete plan history
    → SameBag (puncts_of (elements_out (outputs_of trace plan history))) (puncts_answer plan (puncts_lists plan history))

-- What one more entry adds to what a history has come to, brought, stored and handed out
pub record AddsEntry (plan : List Node) (history : List Entry) (entry : Entry) : Type 0 where
  pub reached : (trace : Bool) → reached_of trace plan (history ++ entry ∷ []) ≡ next trace (reached_of trace plan history) entry
  pub nodes : nodes_from plan (history ++ entry ∷ []) ≡ nodes_by (nodes_from plan history) entry.event
  pub outputs : (trace : Bool) → outputs_of trace plan (history ++ entry ∷ []) ≡ outputs_of trace plan history ++ gained trace (nodes_from plan history) entry.event
  pub arrivals : (n : ℕ) → arrivals_at plan (history ++ entry ∷ []) n ≡ arrivals_at plan history n ++ arrivals_by (nodes_from plan history) entry.event n
  pub peak : (n : ℕ) → peak_of plan (history ++ entry ∷ []) n ≡ max (peak_of plan history n) (stored_at (nodes_by (nodes_from plan history) entry.event) n)

-- all entries were made by this seat
abbrev pub AreMadeBy : ℕ → List Entry → Type 0
AreMadeBy seat [] = Unit {0}
AreMadeBy seat (entry ∷ entries) = (entry.seat ≡ seat) × AreMadeBy seat entries

-- Where one seat made all entries, its drains handed out all that was handed out but what is not drained yet
abbrev pub DrainsHandOutAll : List Node → Type 0
DrainsHandOutAll plan =
    (trace : Bool) (history : List Entry) (seat : ℕ) → AreMadeBy seat history
    → (drained_of trace plan history seat ++ (reached_of trace plan history).undrained) ≡ outputs_of trace plan history

-- ---- the history of a run on one thread

-- the elements fit the columns, and no tuple matches a punctuation before it
abbrev pub AreAccepted : List Column → List Element → Type 0
AreAccepted schema es = ((e : Element) → In e es → FitsDomains (domains_of schema) e) × IsLawful es

-- the columns of a stream of the plan
abbrev pub schema_at : List Node → ℕ → List Column
schema_at plan stream = schema_of (operator_at plan (stream_node plan stream))

-- there is a list for each stream, and its elements are accepted
abbrev pub AreAcceptedLists : List Node → List (List Element) → Type 0
AreAcceptedLists plan lists =
    (length lists ≡ length (streams_of plan))
    × ((stream : ℕ) → stream < length (streams_of plan) → AreAccepted (schema_at plan stream) (slice_index_or lists stream []))

-- The history over accepted elements is legal, gives every tuple, closes every stream and stops nowhere,
-- and what arrives at a stream are its elements and its closing
pub record IsWholeRun (sweeps : Bool) (plan : List Node) (lists : List (List Element)) : Type 0 where
  pub legal : IsLegal plan (one_thread_of sweeps plan lists)
  pub given : AllAreGiven plan (one_thread_of sweeps plan lists)
  pub closed : (stream : ℕ) → stream < length (streams_of plan) → has (reached_of false plan (one_thread_of sweeps plan lists)).closed stream ≡ true
  pub on : IsOn (reached_of false plan (one_thread_of sweeps plan lists))
  pub elements : (stream : ℕ) → stream < length (streams_of plan)
      → elements_of stream (one_thread_of sweeps plan lists) ≡ slice_index_or lists stream [] ++ Punct (all_wild (length (schema_at plan stream))) ∷ []

-- its rows are the nested-loop answer over the elements' rows, as a bag
abbrev pub OneThreadIsAnswer : Bool → List Node → Type 0
OneThreadIsAnswer sweeps plan =
    (lists : List (List Element)) → AreAcceptedLists plan lists → (trace : Bool)
    → SameBag (rows_out (outputs_of trace plan (one_thread_of sweeps plan lists))) (answer_of plan (map rows_of lists))

abbrev pub Certified : Operator → Type 0
Certified (Stream schema sent) = Unit {0}
Certified (Select test) = Unit {0}
Certified (Project columns) = Unit {0}
Certified (Union n u) = Unit {0}
Certified (Join spec s) = AreCertified spec
Certified (Group spec rows) = Unit {0}

-- every input of every join of the plan has a certificate
abbrev pub AllAreCertified : List Node → Type 0
AllAreCertified plan = (n : ℕ) → n < length plan → Certified (operator_at plan n)

-- the run with sweeps over accepted elements leaves every join settled
abbrev pub SweptIsComplete : List Node → Type 0
SweptIsComplete plan = (lists : List (List Element)) → AreAcceptedLists plan lists → IsComplete plan (one_thread_of true plan lists)

-- the elements of a stream, and its closing behind them
abbrev pub closed_list : List Node → List (List Element) → ℕ → List Element
closed_list plan lists stream = slice_index_or lists stream [] ++ Punct (all_wild (length (schema_at plan stream))) ∷ []

-- the elements of each stream, and its closing behind them
abbrev pub closed_lists : List Node → List (List Element) → List (List Element)
closed_lists plan lists = map (closed_list plan lists) (upto_from 0 (length (streams_of plan)))

-- The punctuations of the run with sweeps over accepted elements are the plan's over those of the elements and the closings, as a bag
abbrev pub SweptIsPuncts : List Node → Type 0
SweptIsPuncts plan =
    (lists : List (List Element)) → AreAcceptedLists plan lists → (trace : Bool)
    → SameBag (puncts_of (elements_out (outputs_of trace plan (one_thread_of true plan lists)))) (puncts_answer plan (map puncts_of (closed_lists plan lists)))

-- ---- what was handed out is never taken back

-- each of these lists begins with the rows that arrived at its stream
abbrev pub GoOn : List Node → List Entry → List (List (List Value)) → Type 0
GoOn plan history lists =
    (stream : ℕ) → stream < length (streams_of plan)
    → (rest : List (List Value)) × (slice_index_or lists stream [] ≡ rows_of (elements_of stream history) ++ rest)

-- However the streams go on, the rows handed out so far are among those of the answer over the whole, as bags
abbrev pub NeverRetracts : List Node → Type 0
NeverRetracts plan =
    (trace : Bool) (history : List Entry) → IsLegal plan history → (lists : List (List (List Value))) → GoOn plan history lists
    → SubBag (rows_out (outputs_of trace plan history)) (answer_of plan lists)

-- ---- one join within a plan

abbrev pub Joined : Operator → Type 0
Joined (Stream schema sent) = ⊥
Joined (Select test) = ⊥
Joined (Project columns) = ⊥
Joined (Union n u) = ⊥
Joined (Join spec s) = Unit {0}
Joined (Group spec rows) = ⊥

-- What an event makes of the join at a node, and what the node hands up: the join's own steps and its arrivals, in order
abbrev pub JoinFollows : List Node → Type 0
JoinFollows nodes =
    (event : Event) (n : ℕ) (spec : JoinData) (s : JoinState) → n < length nodes → operator_at nodes n ≡ Join spec s
    → (operator_at (nodes_by nodes event) n ≡ Join spec (run spec s (join_steps_by nodes event n)))
    × (slice_index_or (batches (step_of nodes event) [] nodes) n [] ≡ outputs spec s (join_steps_by nodes event n))

-- The number of elements that reached a join is its next ticket
abbrev pub TicketsCount : List Node → Type 0
TicketsCount plan =
    (history : List Entry) (n : ℕ) → n < length plan → Joined (operator_at plan n) → length (arrivals_at plan history n) ≡ (join_at (nodes_from plan history) n).next

-- ---- legal histories grow entry by entry

-- A history with one more entry is legal exactly where it was legal and the entry is allowed
abbrev pub GrowsLegally : List Node → Type 0
GrowsLegally plan =
    (history : List Entry) (entry : Entry)
    → IsLegal plan (history ++ entry ∷ []) ↔ (IsLegal plan history × IsEntryAllowed (reached_of false plan history) entry)

-- A front of a legal history is legal
abbrev pub FrontsAreLegal : List Node → Type 0
FrontsAreLegal plan = (front back : List Entry) → IsLegal plan (front ++ back) → IsLegal plan front

-- A trace changes nothing but the notes of removed rows
pub record TraceAddsNotes (plan : List Node) (history : List Entry) : Type 0 where
  pub nodes : (trace : Bool) → (reached_of trace plan history).nodes ≡ nodes_from plan history
  pub closed : (reached_of true plan history).closed ≡ (reached_of false plan history).closed
  pub halted : (reached_of true plan history).halted ≡ (reached_of false plan history).halted
  pub stop : (reached_of true plan history).stop ≡ (reached_of false plan history).stop
  pub elements : elements_out (outputs_of true plan history) ≡ elements_out (outputs_of false plan history)

-- ---- probes one by one

-- the entries of one probe
abbrev pub probe_of : Pending → List Entry
probe_of p = plain (Taken p.join p.ticket) ∷ plain (Given p.join p.ticket) ∷ []

-- All probes are none where there is no next one, and else the next one and then all probes
abbrev pub ProbesGoOn : List Node → Type 0
ProbesGoOn nodes =
    (next_probe nodes ≡ None → probes nodes ≡ [])
    × ((p : Pending) → next_probe nodes ≡ Some p → probes nodes ≡ probe_of p ++ probes (nodes_from nodes (probe_of p)))

-- There is no next probe exactly where no ticket is pending
abbrev pub NoneIsPending : List Node → Type 0
NoneIsPending nodes = (next_probe nodes ≡ None) ↔ (pending_in nodes ≡ 0)

-- ---- streams

-- A stream has been fed the elements that arrived at it
abbrev pub StreamsHold : List Node → Type 0
StreamsHold plan =
    (history : List Entry) → IsLegal plan history → (stream : ℕ) → stream < length (streams_of plan)
    → operator_at (nodes_from plan history) (stream_node plan stream) ≡ Stream (schema_at plan stream) (elements_of stream history)

-- ---- turns one by one

-- Turns are made one after the other
abbrev pub TurnsGoOn : Type 0
TurnsGoOn =
    (sweeps : Bool) (nodes : List Node) (front back : List Turn)
    → turns_entries sweeps nodes (front ++ back) ≡ turns_entries sweeps nodes front ++ turns_entries sweeps (nodes_from nodes (turns_entries sweeps nodes front)) back

-- All turns are those of the first round, and then all turns of what is left
abbrev pub RoundsGoOn : Type 0
RoundsGoOn = (lists : List (List Turn)) → in_rounds lists ≡ heads lists ++ in_rounds (tails lists)

-- The steps that a legal history makes at a join are legal, and the join is what they make of it; one more entry adds its own:
-- so the laws of one join hold of each join of a plan
pub record JoinRuns (plan : List Node) : Type 0 where
  pub legal : (history : List Entry) (n : ℕ) (spec : JoinData) → IsLegal plan history → n < length plan → operator_at plan n ≡ Join spec start
      → AreLegalSteps spec start (join_steps_of plan history n)
  pub state : (history : List Entry) (n : ℕ) (spec : JoinData) → n < length plan → operator_at plan n ≡ Join spec start
      → operator_at (nodes_from plan history) n ≡ Join spec (run spec start (join_steps_of plan history n))
  pub more : (history : List Entry) (entry : Entry) (n : ℕ)
      → join_steps_of plan (history ++ entry ∷ []) n ≡ join_steps_of plan history n ++ join_steps_by (nodes_from plan history) entry.event n
