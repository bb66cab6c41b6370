-- The history of a run on one thread.
use Rattle.std.specs.Prelude.{ℕ, zero, suc, ◌+◌, Bool, true, false, ◌&&◌, if◌then◌else◌, List, [], ◌∷◌, ◌++◌, map, length, max, Option, Some, None}
use Rattle.pj_pattern.specs.declared.element.Element.{Element}
use Rattle.pj_pattern.specs.declared.element.Element.TheVariants.{Tuple, Punct}
use Rattle.pj_shape.specs.declared.columns.Column.{Column}
use Rattle.pj_events.specs.Patterns.{all_wild}
use Rattle.pj_events.specs.Join.{inputs, upto_from}
use Rattle.pj_events.specs.KeptState.{lacking}
use Rattle.pj_events.specs.Plan.{Operator, Stream, Join, Node, operator_at, Select, Project, Union, Group}
use Rattle.pj_events.specs.History.{Entry, Event, Arrive, Taken, Given, Swept, Drain, streams_of, join_at, nodes_from}

-- an entry that closes no stream, made where there are no seats
abbrev pub plain : Event → Entry
plain event = record { event = event; seat = 0; closing = 0 }

-- an element that arrives at a stream, and 1 where it closes it
pub record Turn : Type 0 where
  pub stream : ℕ
  pub element : Element
  pub closing : ℕ

abbrev pub arrival_of : Turn → Entry
arrival_of turn = record { event = Arrive turn.stream turn.element; seat = 0; closing = turn.closing }

-- ---- turns

-- the elements of a stream, and then its closing
abbrev pub turns_of : ℕ → List Column → List Element → List Turn
turns_of stream schema elements =
    map (λ e. record { stream = stream; element = e; closing = 0 }) elements
    ++ record { stream = stream; element = Punct (all_wild (length schema)); closing = 1 } ∷ []

-- the first item of each of these lists that has one, in their order
abbrev pub heads : {A : Type 0} → List (List A) → List A
heads [] = []
heads ([] ∷ lists) = heads lists
heads ((x ∷ xs) ∷ lists) = x ∷ heads lists

-- these lists without their first items
abbrev pub tails : {A : Type 0} → List (List A) → List (List A)
tails [] = []
tails ([] ∷ lists) = [] ∷ tails lists
tails ((x ∷ xs) ∷ lists) = xs ∷ tails lists

-- the items of these lists in so many rounds: in each round the first that is left of each list
abbrev pub rounds : {A : Type 0} → ℕ → List (List A) → List A
rounds zero lists = []
rounds (suc n) lists = heads lists ++ rounds n (tails lists)

abbrev pub longest : {A : Type 0} → List (List A) → ℕ
longest [] = 0
longest (xs ∷ lists) = max (length xs) (longest lists)

-- all items of these lists in rounds
abbrev pub in_rounds : {A : Type 0} → List (List A) → List A
in_rounds lists = rounds (longest lists) lists

-- ---- probes

-- each of these tickets of a join is taken and given
abbrev pub probes_at : ℕ → List ℕ → List Entry
probes_at join [] = []
probes_at join (u ∷ us) = plain (Taken join u) ∷ plain (Given join u) ∷ probes_at join us

-- the tickets of the join at a node that are not taken, in order
abbrev pub pending_at : List Node → ℕ → List ℕ
pending_at nodes join = lacking (join_at nodes join).taken (join_at nodes join).tuples

-- at so many nodes from this one on, all tickets that are not taken are taken and given, in order
abbrev pub probes_from : List Node → ℕ → ℕ → List Entry
probes_from nodes join zero = []
probes_from nodes join (suc n) =
    let here = probes_at join (pending_at nodes join) in
    here ++ probes_from (nodes_from nodes here) (join + 1) n

-- all probes: always that of the first join that has a ticket which is not taken, and there of the least
abbrev pub probes : List Node → List Entry
probes nodes = probes_from nodes 0 (length nodes)

-- a ticket of a join
pub record Pending : Type 0 where
  pub join : ℕ
  pub ticket : ℕ

-- the first of these tickets of a join; where there is none, what comes later
abbrev pub first_of : ℕ → List ℕ → Option Pending → Option Pending
first_of join [] later = later
first_of join (u ∷ us) later = Some (record { join = join; ticket = u })

abbrev pub next_from : List Node → ℕ → ℕ → Option Pending
next_from nodes join zero = None
next_from nodes join (suc n) = first_of join (pending_at nodes join) (next_from nodes (join + 1) n)

-- the first join that has a ticket which is not taken, and there the least
abbrev pub next_probe : List Node → Option Pending
next_probe nodes = next_from nodes 0 (length nodes)

-- ---- sweeps

-- a join, and one of its inputs
pub record Place : Type 0 where
  pub join : ℕ
  pub input : ℕ

abbrev pub places_in : ℕ → Operator → List Place
places_in join (Stream schema sent) = []
places_in join (Select test) = []
places_in join (Project columns) = []
places_in join (Union n u) = []
places_in join (Join spec s) = map (λ k. record { join = join; input = k }) (upto_from 0 (inputs spec))
places_in join (Group spec rows) = []

-- the inputs of all joins, in order of the nodes from this number on
abbrev pub places_from : ℕ → List Node → List Place
places_from n [] = []
places_from n (node ∷ nodes) = places_in n node.operator ++ places_from (n + 1) nodes

-- a sweep of each of these inputs, and all probes after each
abbrev pub sweeps_at : List Node → List Place → List Entry
sweeps_at nodes [] = []
sweeps_at nodes (place ∷ places) =
    let here = plain (Swept place.join place.input) ∷ [] in
    let after = here ++ probes (nodes_from nodes here) in
    after ++ sweeps_at (nodes_from nodes after) places

-- ---- the history

abbrev pub is_punct : Element → Bool
is_punct (Tuple row) = false
is_punct (Punct patterns) = true

-- what follows an arrival: all probes, where sweeps are made and it was a punctuation a sweep of each input, and a drain
abbrev pub follow_up : Bool → List Node → Element → List Entry
follow_up sweeps nodes e =
    let probed = probes nodes in
    let after = nodes_from nodes probed in
    probed ++ (if sweeps && is_punct e then sweeps_at after (places_from 0 after) else []) ++ plain Drain ∷ []

-- the entries of one turn
abbrev pub turn_entries : Bool → List Node → Turn → List Entry
turn_entries sweeps nodes turn =
    let here = arrival_of turn ∷ [] in here ++ follow_up sweeps (nodes_from nodes here) turn.element

-- the entries of these turns, one after the other
abbrev pub turns_entries : Bool → List Node → List Turn → List Entry
turns_entries sweeps nodes [] = []
turns_entries sweeps nodes (turn ∷ turns) =
    let here = turn_entries sweeps nodes turn in here ++ turns_entries sweeps (nodes_from nodes here) turns

abbrev pub schema_of : Operator → List Column
schema_of (Stream schema sent) = schema
schema_of (Select test) = []
schema_of (Project columns) = []
schema_of (Union n u) = []
schema_of (Join spec s) = []
schema_of (Group spec rows) = []

-- the turns of the streams from this number on, which stand at these nodes
abbrev pub all_turns : List Node → ℕ → List ℕ → List (List Element) → List (List Turn)
all_turns plan stream [] lists = []
all_turns plan stream (place ∷ places) [] = turns_of stream (schema_of (operator_at plan place)) [] ∷ all_turns plan (stream + 1) places []
all_turns plan stream (place ∷ places) (es ∷ lists) =
    turns_of stream (schema_of (operator_at plan place)) es ∷ all_turns plan (stream + 1) places lists

-- The history of a run on one thread over the elements of each stream, with sweeps or without them:
-- in rounds the streams take turns, and each turn brings the next element, or closes the stream
abbrev pub one_thread_of : Bool → List Node → List (List Element) → List Entry
one_thread_of sweeps plan lists = turns_entries sweeps plan (in_rounds (all_turns plan 0 (streams_of plan) lists))
