-- How a climb goes through the levels above a node, under a limit on the number of elements that reach a node.
use Rattle.std.specs.Prelude.{ℕ, ◌+◌, ◌≤◌, ◌≡◌, List, [], ◌∷◌, ◌++◌, length, slice_index_or, Option, Some, None}
use Rattle.pj_pattern.specs.declared.element.Element.{Element}
use Rattle.pj_events.specs.Plan.{Operator, Node, Local, hands, operator_at}
use Rattle.pj_events.specs.declared.events.Entry.{Entry}
use Rattle.pj_events.specs.declared.events.Event.{Event}
use Rattle.pj_events.specs.History.{nodes_from}
use Rattle.pj_events.specs.Outcomes.{Arrival, arrivals_at, Level, Climb, Beyond, Below, climb, way_up, beyond_of, origin_of, goes_beyond}
use Rattle.pj_laws.specs.Climb.{Above, above, climbed, local_of}

-- the level of a node, where so many elements have reached each
abbrev pub level_at : (ℕ → ℕ) → List Node → Above → Level
level_at reached nodes a = record { place = a.place; input = a.input; operator = operator_at nodes a.place; count = reached a.place }

-- more elements go up behind others
abbrev pub climb_then : ℕ → ℕ → Climb → List Element → Climb
climb_then depth limit (Beyond place) es = Beyond place
climb_then depth limit (Below levels) es = climb depth limit levels es

-- how many elements have reached each node, with those that came since
abbrev pub reached_with : (ℕ → ℕ) → List (List Arrival) → ℕ → ℕ
reached_with reached brought n = reached n + length (slice_index_or brought n [])

-- The levels above a node are that of the node above it and those above that one. Elements go up one after the other,
-- and where none of them goes beyond the limit the levels are those of the nodes after the climb.
pub record LevelsClimb (nodes : List Node) (reached : ℕ → ℕ) (limit : ℕ) : Type 0 where
  pub ends : (n : ℕ) → above nodes n ≡ None → way_up reached 0 n nodes ≡ []
  pub goes_on : (n : ℕ) (a : Above) → above nodes n ≡ Some a → way_up reached 0 n nodes ≡ level_at reached nodes a ∷ way_up reached 0 a.place nodes
  pub parts : (depth : ℕ) (levels : List Level) (es fs : List Element) → climb depth limit levels (es ++ fs) ≡ climb_then depth limit (climb depth limit levels es) fs
  pub below : (depth n : ℕ) (es : List Element) (levels : List Level) → length (way_up reached 0 n nodes) ≤ depth → climb depth limit (way_up reached 0 n nodes) es ≡ Below levels
      → levels ≡ way_up (reached_with reached (climbed nodes n es).brought) 0 n (climbed nodes n es).nodes
  pub fits : (n : ℕ) → length (way_up reached 0 n nodes) ≤ length nodes

-- what the node at which an event begins hands up by its local step
abbrev pub begun_where : Operator → Option Local → List Element
begun_where operator None = []
begun_where operator (Some l) = hands operator l

abbrev pub begun_by : List Node → Event → List Element
begun_by nodes event = begun_where (operator_at nodes (origin_of nodes event)) (local_of event)

-- an event goes beyond the limit where what the node at which it begins hands up does on its way
abbrev pub BeyondIsClimbed : ℕ → List Node → List Entry → Event → Type 0
BeyondIsClimbed limit plan history event =
    let nodes = nodes_from plan history in
    goes_beyond limit plan history event
    ≡ beyond_of (climb (length nodes) limit (way_up (λ n. length (arrivals_at plan history n)) 0 (origin_of nodes event) nodes) (begun_by nodes event))
