-- What one more entry adds to what is kept of a history of a tree.
use Rattle.std.specs.Prelude.{ℕ, ◌+◌, ◌<◌, ◌≤◌, ◌≡◌, Bool, if◌then◌else◌, List, [], ◌∷◌, ◌++◌, map, length, max, slice_index_or}
use Rattle.pj_pattern.specs.declared.element.Element.{Element}
use Rattle.pj_events.specs.Join.{JoinData, start, AreLegalSteps}
use Rattle.pj_events.specs.Plan.{Join, Node, operator_at}
use Rattle.pj_events.specs.declared.events.Entry.{Entry}
use Rattle.pj_events.specs.declared.events.Event.{Event}
use Rattle.pj_events.specs.declared.events.Out.{Out}
use Rattle.pj_events.specs.declared.events.Event.TheVariants.{Drain}
use Rattle.pj_events.specs.History.{out_of, notes_of, state_in, closed_after, halted_after, stop_after, nodes_from, IsLegal}
use Rattle.pj_events.specs.Outcomes.{Arrival, counted, step_at, own_step, join_steps_of, arrivals_at, peak_of, stored_at, outputs_of}
use Rattle.pj_events.specs.CoreKept.{CoreKept, core_kept, kept_in}
use Rattle.pj_laws.specs.Climb.{HasOneTop, climbed, climb_of}

-- what an event hands out: with a trace the notes of removed rows first, and then what is left of its climb
abbrev pub handed_by : Bool → List Node → Event → List Out
handed_by trace nodes event = (if trace then notes_of nodes event else []) ++ map out_of (climb_of nodes event).left.elements

-- what these nodes have counted, with what comes to each
abbrev pub counted_with : List ℕ → List Node → List (List Arrival) → List ℕ
counted_with [] nodes brought = []
counted_with (n ∷ ns) [] brought = n ∷ ns
counted_with (n ∷ ns) (node ∷ nodes) [] = n ∷ ns
counted_with (n ∷ ns) (node ∷ nodes) (came ∷ brought) = (n + counted node.operator (length came)) ∷ counted_with ns nodes brought

-- the greatest numbers of stored tuples, with those that these nodes store
abbrev pub raised : List ℕ → List Node → List ℕ
raised [] nodes = []
raised (n ∷ ns) [] = n ∷ ns
raised (n ∷ ns) (node ∷ nodes) = max n (length (state_in node.operator).stored) ∷ raised ns nodes

abbrev pub undrained_with : List Out → List Out → Event → List Out
undrained_with old more Drain = []
undrained_with old more _ = old ++ more

-- what is kept after an entry at these nodes, where this was kept
abbrev pub kept_with : Bool → CoreKept → List Node → Entry → CoreKept
kept_with trace k nodes entry = record {
  nodes = map (λ node. kept_in node.operator) (climb_of nodes entry.event).nodes;
  counts = counted_with k.counts (climb_of nodes entry.event).nodes (climb_of nodes entry.event).brought;
  peaks = raised k.peaks (climb_of nodes entry.event).nodes;
  closed = closed_after k.closed entry.closing entry.event;
  undrained = undrained_with k.undrained (handed_by trace nodes entry.event) entry.event;
  halted = halted_after k.halted entry.event;
  stop = stop_after k.stop entry.event;
}

-- a climb leaves no node with fewer stored tuples, so that a peak may be raised at each element of it
abbrev pub StoresGrow : List Node → Type 0
StoresGrow nodes = (n : ℕ) (es : List Element) (m : ℕ) → stored_at nodes m ≤ stored_at (climbed nodes n es).nodes m

-- one more entry adds its climb
pub record AddsClimb (plan : List Node) (history : List Entry) (entry : Entry) : Type 0 where
  pub nodes : nodes_from plan (history ++ entry ∷ []) ≡ (climb_of (nodes_from plan history) entry.event).nodes
  pub arrivals : (n : ℕ) → arrivals_at plan (history ++ entry ∷ []) n ≡ arrivals_at plan history n ++ slice_index_or (climb_of (nodes_from plan history) entry.event).brought n []
  pub peak : (n : ℕ) → peak_of plan (history ++ entry ∷ []) n ≡ max (peak_of plan history n) (stored_at (climb_of (nodes_from plan history) entry.event).nodes n)
  pub outputs : (trace : Bool) → HasOneTop plan → outputs_of trace plan (history ++ entry ∷ []) ≡ outputs_of trace plan history ++ handed_by trace (nodes_from plan history) entry.event
  pub kept : (trace : Bool) → HasOneTop plan → core_kept trace plan (history ++ entry ∷ []) ≡ kept_with trace (core_kept trace plan history) (nodes_from plan history) entry

-- The steps that a legal history with one more entry makes at a join are those before, its own step by the entry where there is
-- one, and one for each element that the climb brings there; so each of them is allowed behind those before it
abbrev pub JoinsClimb : List Node → Type 0
JoinsClimb plan =
    (history : List Entry) (entry : Entry) (n : ℕ) (spec : JoinData) → IsLegal plan (history ++ entry ∷ []) → n < length plan → operator_at plan n ≡ Join spec start
    → AreLegalSteps spec start (join_steps_of plan history n ++ (own_step n entry.event ++ map step_at (slice_index_or (climb_of (nodes_from plan history) entry.event).brought n [])))
