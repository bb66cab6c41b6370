-- What a history has brought to each node, what stands there, and what it handed out.
use Rattle.std.specs.Prelude.{ℕ, zero, suc, ◌+◌, Bool, true, false, ◌==◌, ◌&&◌, if◌then◌else◌, List, [], ◌∷◌, ◌++◌, map, length, slice_index_or, flat_map, max, Option, Some, None, sum, filter}
use Rattle.pj_value.specs.declared.values.Value.{Value}
use Rattle.pj_value.specs.Lists.{has}
use Rattle.pj_pattern.specs.declared.element.Element.{Element}
use Rattle.pj_pattern.specs.declared.element.Element.TheVariants.{Tuple, Punct}
use Rattle.pj_events.specs.Join.{Step, Take, Give, Sweep, low, results, joined, rows_of, upto_from}
use Rattle.pj_events.specs.Plan.{Operator, Join, Group, Node, Comes, join_step, batches, after, hands, nowhere, answers_from, Stream, Select, Project, Union}
use Rattle.pj_events.specs.History.{Entry, Event, Arrive, Taken, Given, Swept, Drain, Out, RowOut, PunctOut, Purged, streams_of, stream_node, root_of, join_at, data_at, step_of, nodes_by, gained, Reached, begun, next, nodes_from, state_in}
use Rattle.pj_events.specs.KeptState.{lacking}

-- ---- arrivals

-- an element that reached a node, and the input at which it did
pub record Arrival : Type 0 where
  pub input : ℕ
  pub element : Element

abbrev pub arriving : ℕ → Element → Arrival
arriving input e = record { input = input; element = e }

-- what these nodes handed up, as arrivals at the inputs from this one on
abbrev pub arrivals_in : ℕ → List ℕ → List (List Element) → List Arrival
arrivals_in k [] done = []
arrivals_in k (m ∷ ms) done = map (arriving k) (slice_index_or done m []) ++ arrivals_in (k + 1) ms done

-- what an event brings to a node
abbrev pub arrivals_by : List Node → Event → ℕ → List Arrival
arrivals_by nodes event place = arrivals_in 0 (slice_index_or nodes place nowhere).inputs (batches (step_of nodes event) [] nodes)

-- the elements that reached a node, in order: at a join the place of an element in this list is its ticket
abbrev pub arrivals_at : List Node → List Entry → ℕ → List Arrival
arrivals_at nodes [] place = []
arrivals_at nodes (entry ∷ entries) place = arrivals_by nodes entry.event place ++ arrivals_at (nodes_by nodes entry.event) entries place

-- the step of a join at an arrival
abbrev pub step_at : Arrival → Step
step_at a = join_step a.input a.element

-- the step of its own that an event makes at a join
abbrev pub own_step : ℕ → Event → List Step
own_step place (Taken join ticket) = if join == place then (Take ticket ∷ []) else []
own_step place (Given join ticket) = if join == place then (Give ticket ∷ []) else []
own_step place (Swept join input) = if join == place then (Sweep input ∷ []) else []
own_step place _ = []

-- all steps that an event makes at a join
abbrev pub join_steps_by : List Node → Event → ℕ → List Step
join_steps_by nodes event place = own_step place event ++ map step_at (arrivals_by nodes event place)

-- all steps that a history makes at a join
abbrev pub join_steps_of : List Node → List Entry → ℕ → List Step
join_steps_of nodes [] place = []
join_steps_of nodes (entry ∷ entries) place = join_steps_by nodes entry.event place ++ join_steps_of (nodes_by nodes entry.event) entries place

-- the elements that arrived at a stream, the closing among them
abbrev pub element_at : ℕ → Event → List Element
element_at stream (Arrive s e) = if s == stream then (e ∷ []) else []
element_at stream _ = []

abbrev pub elements_of : ℕ → List Entry → List Element
elements_of stream history = flat_map (λ entry. element_at stream entry.event) history

-- ---- what stands at a join

-- the low-water ticket of a join
abbrev pub low_of : List Node → List Entry → ℕ → ℕ
low_of plan history join = low (join_at (nodes_from plan history) join)

-- the result rows of a ticket, over all that arrived, in their order
abbrev pub results_of : List Node → List Entry → ℕ → ℕ → List (List Value)
results_of plan history join ticket =
    let s = join_at (nodes_from plan history) join in map joined (results (data_at plan join) s.tuples s.tuples ticket)

-- the number of tuples stored at a join
abbrev pub stored_at : List Node → ℕ → ℕ
stored_at nodes join = length (join_at nodes join).stored

-- the greatest number of tuples stored at a join after any of the entries
abbrev pub peak_of : List Node → List Entry → ℕ → ℕ
peak_of nodes [] join = stored_at nodes join
peak_of nodes (entry ∷ entries) join = max (stored_at nodes join) (peak_of (nodes_by nodes entry.event) entries join)

-- ---- what a history hands out

-- all that a history hands out, with the notes of removed rows at their places or without them
abbrev pub outputs_of : Bool → List Node → List Entry → List Out
outputs_of trace nodes [] = []
outputs_of trace nodes (entry ∷ entries) = gained trace nodes entry.event ++ outputs_of trace (nodes_by nodes entry.event) entries

-- the elements of what is handed out, without the notes
abbrev pub elements_out : List Out → List Element
elements_out [] = []
elements_out (RowOut row ∷ outs) = Tuple row ∷ elements_out outs
elements_out (PunctOut patterns ∷ outs) = Punct patterns ∷ elements_out outs
elements_out (Purged join input row ∷ outs) = elements_out outs

-- the rows of what is handed out
abbrev pub rows_out : List Out → List (List Value)
rows_out outs = rows_of (elements_out outs)

-- what this entry hands out to the seat that drains
abbrev pub drained_by : ℕ → ℕ → List Out → Event → List Out
drained_by seat by held Drain = if by == seat then held else []
drained_by seat by held _ = []

abbrev pub drained_from : Bool → Reached → List Entry → ℕ → List Out
drained_from trace r [] seat = []
drained_from trace r (entry ∷ entries) seat =
    drained_by seat entry.seat r.undrained entry.event ++ drained_from trace (next trace r entry) entries seat

-- what the drains of a seat handed out, in order
abbrev pub drained_of : Bool → List Node → List Entry → ℕ → List Out
drained_of trace plan history seat = drained_from trace (begun plan) history seat

-- ---- the answer

-- the place of the first of these that is n, counted from k
abbrev pub place_in : ℕ → List ℕ → ℕ → Option ℕ
place_in k [] n = None
place_in k (m ∷ ms) n = if m == n then Some k else place_in (k + 1) ms n

-- the list at this place
abbrev pub list_at : List (List (List Value)) → Option ℕ → List (List Value)
list_at lists None = []
list_at lists (Some k) = slice_index_or lists k []

-- the nested-loop answers of all nodes of a plan, where its streams have these lists of rows, in their order
abbrev pub answers_of : List Node → List (List (List Value)) → List (List (List Value))
answers_of plan lists = answers_from (λ n. list_at lists (place_in 0 (streams_of plan) n)) [] plan

-- the nested-loop answer of a plan
abbrev pub answer_of : List Node → List (List (List Value)) → List (List Value)
answer_of plan lists = slice_index_or (answers_of plan lists) (root_of plan) []

-- the lists of rows that arrived at the streams
abbrev pub lists_of : List Node → List Entry → List (List (List Value))
lists_of plan history = map (λ stream. rows_of (elements_of stream history)) (upto_from 0 (length (streams_of plan)))

-- ---- limits

-- a node on the way up: its number, the input that it is reached at, its operator, and how many elements have reached it
pub record Level : Type 0 where
  pub place : ℕ
  pub input : ℕ
  pub operator : Operator
  pub count : ℕ

-- joins and groups count what reaches them
abbrev pub counts : Operator → Bool
counts (Stream schema sent) = false
counts (Select test) = false
counts (Project columns) = false
counts (Union n u) = false
counts (Join spec s) = true
counts (Group spec rows) = true

-- of so many elements that reached a node, how many it has counted
abbrev pub counted : Operator → ℕ → ℕ
counted operator n = if counts operator then n else 0

abbrev pub is_full : ℕ → Level → Bool
is_full limit level = counts level.operator && (level.count == limit)

abbrev pub passed : Level → Element → Level
passed level e = record level { operator = after level.operator (Comes level.input e); count = level.count + 1 }

-- an element went beyond the limit of this node, or the levels after all went up
pub data Climb : Type 0 where
  Beyond : ℕ → Climb
  Below : List Level → Climb

-- these elements go up into a level one by one, each as far up as it goes before the next
abbrev pub climb_each : (List Level → List Element → Climb) → ℕ → Level → List Level → List Element → Climb
climb_each above limit level levels [] = Below (level ∷ levels)
climb_each above limit level levels (e ∷ es) =
    if is_full limit level then Beyond level.place
    else elim (above levels (hands level.operator (Comes level.input e))) [
      | Beyond place ↦ Beyond place
      | Below higher ↦ climb_each above limit (passed level e) higher es
    ]

-- these elements go up through levels of at most this number
abbrev pub climb : ℕ → ℕ → List Level → List Element → Climb
climb zero limit levels es = Below levels
climb (suc depth) limit [] es = Below []
climb (suc depth) limit (level ∷ levels) es = climb_each (climb depth limit) limit level levels es

-- the nodes from this number on that stand on the way up from a node, where so many elements have reached each node
abbrev pub way_up : (ℕ → ℕ) → ℕ → ℕ → List Node → List Level
way_up reached place child [] = []
way_up reached place child (node ∷ nodes) =
    elim (place_in 0 node.inputs child) [
      | None ↦ way_up reached (place + 1) child nodes
      | Some input ↦ record { place = place; input = input; operator = node.operator; count = reached place } ∷ way_up reached (place + 1) place nodes
    ]

abbrev pub beyond_of : Climb → Option ℕ
beyond_of (Beyond place) = Some place
beyond_of (Below levels) = None

-- the node at which an event begins
abbrev pub origin_of : List Node → Event → ℕ
origin_of nodes (Arrive stream e) = stream_node nodes stream
origin_of nodes (Taken join ticket) = join
origin_of nodes (Given join ticket) = join
origin_of nodes (Swept join input) = join
origin_of nodes _ = length nodes

-- the node at which an event behind a history brings the first element beyond the limit, going up one by one
abbrev pub goes_beyond : ℕ → List Node → List Entry → Event → Option ℕ
goes_beyond limit plan history event =
    let nodes = nodes_from plan history in
    let origin = origin_of nodes event in
    beyond_of (climb (length nodes) limit (way_up (λ n. length (arrivals_at plan history n)) 0 origin nodes)
    (slice_index_or (batches (step_of nodes event) [] nodes) origin []))

-- ---- what a look counts

-- the number of tuples that are stored at these nodes, of those that are not given, and of punctuations that wait
abbrev pub stored_in : List Node → ℕ
stored_in nodes = sum (map (λ node. length (state_in node.operator).stored) nodes)

abbrev pub opened_in : List Node → ℕ
opened_in nodes = sum (map (λ node. length (lacking (state_in node.operator).given (state_in node.operator).tuples)) nodes)

abbrev pub waiting_in : List Node → ℕ
waiting_in nodes = sum (map (λ node. length (state_in node.operator).waiting) nodes)

-- how many of so many streams are among the closed
abbrev pub ended_of : ℕ → List ℕ → ℕ
ended_of streams closed = length (filter (has closed) (upto_from 0 streams))
