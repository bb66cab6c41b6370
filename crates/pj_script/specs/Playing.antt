-- The history that a script makes: its steps one by one, as far as each is enabled; then the run is settled, and goes on in rounds.
use Rattle.std.specs.Prelude.{ℕ, zero, suc, ◌+◌, ◌<◌, ⊤, true, Bool, List, [], ◌∷◌, ◌++◌, filter, length, set, slice_get, slice_index_or, Option, Some, None, is_some, if◌then◌else◌}
use Rattle.pj_pattern.specs.declared.element.Element.{Element}
use Rattle.pj_events.specs.declared.events.Entry.{Entry}
use Rattle.pj_events.specs.declared.events.Event.TheVariants.{Take as Taken, Give as Given, Sweep as Swept, Drain as Drained}
use Rattle.pj_events.specs.Join.{has, inputs}
use Rattle.pj_events.specs.KeptState.{lacking}
use Rattle.pj_events.specs.Plan.{Node}
use Rattle.pj_events.specs.History.{data_at, join_at, nodes_from, streams_of}
use Rattle.pj_events.specs.OneThread.{Pending, Turn, all_turns, arrival_of, in_rounds, next_probe, places_from, plain, probes, sweeps_at, turns_entries}
use Rattle.pj_script.specs.declared.step.ScriptStep.{ScriptStep}
use Rattle.pj_script.specs.declared.step.ScriptStep.TheVariants.{Arrive, Take, Give, Sweep, Drain}

-- ---- one step

-- the turn that a stream has next, if one is left
abbrev pub turn_left : List (List Turn) → ℕ → Option Turn
turn_left left stream = slice_get (slice_index_or left stream []) 0

-- what is left of each stream without this one's next turn
abbrev pub without_turn : List Turn → List Turn
without_turn [] = []
without_turn (turn ∷ turns) = turns

abbrev pub left_behind : List (List Turn) → ScriptStep → List (List Turn)
left_behind left (Arrive stream) = set left stream (without_turn (slice_index_or left stream []))
left_behind left Take = left
left_behind left (Give join ticket) = left
left_behind left (Sweep join input) = left
left_behind left Drain = left

-- the tickets of the join at a node that are taken and not given, in order
abbrev pub under_way_at : List Node → ℕ → List ℕ
under_way_at nodes join = filter (has (join_at nodes join).taken) (lacking (join_at nodes join).given (join_at nodes join).tuples)

abbrev pub arrival_if : Option Turn → Option Entry
arrival_if None = None
arrival_if (Some turn) = Some (arrival_of turn)

abbrev pub take_if : Option Pending → Option Entry
take_if None = None
take_if (Some pending) = Some (plain (Taken pending.join pending.ticket))

abbrev pub give_if : Bool → ℕ → ℕ → Option Entry
give_if under_way join ticket = if under_way then Some (plain (Given join ticket)) else None

-- The entry that a step makes where the nodes are these and these turns are left of each stream; none where the step is not enabled:
-- the stream has ended, no ticket is pending, or the ticket is not under way
abbrev pub step_entry : List Node → List (List Turn) → ScriptStep → Option Entry
step_entry nodes left (Arrive stream) = arrival_if (turn_left left stream)
step_entry nodes left Take = take_if (next_probe nodes)
step_entry nodes left (Give join ticket) = give_if (has (under_way_at nodes join) ticket) join ticket
step_entry nodes left (Sweep join input) = Some (plain (Swept join input))
step_entry nodes left Drain = Some (plain Drained)

abbrev pub listed : Option Entry → List Entry
listed None = []
listed (Some entry) = entry ∷ []

-- ---- all steps

-- The entries of the steps that were made, what is left of each stream then, and the line of the first step that is not enabled
pub record Played : Type 0 where
  pub entries : List Entry
  pub left : List (List Turn)
  pub refused : Option ℕ

abbrev pub behind : List Entry → Played → Played
behind entries played = record played { entries = entries ++ played.entries }

abbrev pub refused_at : ℕ → List (List Turn) → Played
refused_at line left = record { entries = []; left = left; refused = Some line }

-- these steps, each with its line, one by one up to the first that is not enabled
abbrev pub play : List Node → List (List Turn) → List (ℕ × ScriptStep) → Played
play nodes left [] = record { entries = []; left = left; refused = None }
play nodes left ((line, step) ∷ steps) =
    let here = step_entry nodes left step in
    if is_some here then behind (listed here) (play (nodes_from nodes (listed here)) (left_behind left step) steps) else refused_at line left

-- ---- behind the script

-- each of these tickets of a join is given
abbrev pub gives_at : ℕ → List ℕ → List Entry
gives_at join [] = []
gives_at join (ticket ∷ tickets) = plain (Given join ticket) ∷ gives_at join tickets

-- at so many nodes from this one on, what is under way is given, in order of tickets
abbrev pub gives_from : List Node → ℕ → ℕ → List Entry
gives_from nodes join zero = []
gives_from nodes join (suc n) =
    let here = gives_at join (under_way_at nodes join) in
    here ++ gives_from (nodes_from nodes here) (join + 1) n

abbrev pub gives : List Node → List Entry
gives nodes = gives_from nodes 0 (length nodes)

-- all probes, a sweep of each input of each join with all probes after it, and a drain
abbrev pub finished : List Node → List Entry
finished nodes =
    let probed = probes nodes in
    let after = nodes_from nodes probed in
    (probed ++ sweeps_at after (places_from 0 after)) ++ plain Drained ∷ []

-- what is under way is given, and then the run is settled
abbrev pub settled : List Node → List Entry
settled nodes = gives nodes ++ finished (nodes_from nodes (gives nodes))

-- and the streams that have not ended take turns
abbrev pub goes_on : List Node → List (List Turn) → List Entry
goes_on nodes left = settled nodes ++ turns_entries true (nodes_from nodes (settled nodes)) (in_rounds left)

-- ---- the history

-- the turns of all streams, over the elements of each
abbrev pub all_left : List Node → List (List Element) → List (List Turn)
all_left plan lists = all_turns plan 0 (streams_of plan) lists

abbrev pub played_of : List Node → List (List Element) → List (ℕ × ScriptStep) → Played
played_of plan lists steps = play plan (all_left plan lists) steps

abbrev pub ending_of : List Node → Played → List Entry
ending_of plan played = if is_some played.refused then [] else goes_on (nodes_from plan played.entries) played.left

-- The history of a script over the elements of each stream. Where a step is not enabled it ends before that step
abbrev pub scripted_of : List Node → List (List Element) → List (ℕ × ScriptStep) → List Entry
scripted_of plan lists steps = (played_of plan lists steps).entries ++ ending_of plan (played_of plan lists steps)

-- ---- steps that fit a plan

-- the step names a stream of the plan, or a join and an input of it
abbrev pub FitsPlan : List Node → ScriptStep → Type 0
FitsPlan plan (Arrive stream) = stream < length (streams_of plan)
FitsPlan plan Take = ⊤
FitsPlan plan (Give join ticket) = join < length plan
FitsPlan plan (Sweep join input) = (join < length plan) × (input < inputs (data_at plan join))
FitsPlan plan Drain = ⊤

abbrev pub AllFit : List Node → List (ℕ × ScriptStep) → Type 0
AllFit plan [] = ⊤
AllFit plan ((line, step) ∷ steps) = FitsPlan plan step × AllFit plan steps
