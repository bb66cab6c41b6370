-- How what a node hands up climbs through a plan that is a tree.
use Rattle.std.specs.Prelude.{ℕ, zero, suc, ◌+◌, ◌<◌, ◌≡◌, ◌≢◌, List, [], ◌∷◌, ◌++◌, map, length, slice_index_or, slice_set, Option, Some, None}
use Rattle.pj_pattern.specs.declared.element.Element.{Element}
use Rattle.pj_events.specs.Join.{In, AreDistinct, Step, Take, Give, Sweep}
use Rattle.pj_events.specs.Plan.{Node, Local, Comes, Fed, Own, PlanStep, Feed, Act, nowhere, batches, moved, after, hands, after_all, hands_all, operator_at}
use Rattle.pj_events.specs.declared.events.Event.{Event}
use Rattle.pj_events.specs.declared.events.Event.TheVariants.{Arrive, Take as Taken, Give as Given, Sweep as Swept}
use Rattle.pj_events.specs.History.{step_of, nodes_by, root_hands}
use Rattle.pj_events.specs.Outcomes.{Arrival, arriving, arrivals_in, arrivals_by, place_in, origin_of}

-- ---- trees

-- the inputs of all nodes
abbrev pub all_inputs : List Node → List ℕ
all_inputs [] = []
all_inputs (node ∷ nodes) = node.inputs ++ all_inputs nodes

-- the inputs of each node have smaller numbers than it, where the first has this number
abbrev pub StandBehind : ℕ → List Node → Type 0
StandBehind k [] = Unit {0}
StandBehind k (node ∷ nodes) = ((m : ℕ) → In m node.inputs → m < k) × StandBehind (k + 1) nodes

-- each node stands behind its inputs, and feeds at most one input of one node
pub record IsTree (nodes : List Node) : Type 0 where
  pub behind : StandBehind 0 nodes
  pub once : AreDistinct (all_inputs nodes)

-- the node that another feeds, and the input at which it takes
pub record Above : Type 0 where
  pub place : ℕ
  pub input : ℕ

abbrev pub first_above : ℕ → Option ℕ → Option Above → Option Above
first_above k None later = later
first_above k (Some input) later = Some (record { place = k; input = input })

-- the node among these that a node feeds, where the first has this number
abbrev pub above_from : ℕ → List Node → ℕ → Option Above
above_from k [] n = None
above_from k (node ∷ nodes) n = first_above k (place_in 0 node.inputs n) (above_from (k + 1) nodes n)

-- the node that a node feeds
abbrev pub above : List Node → ℕ → Option Above
above nodes n = above_from 0 nodes n

-- each node but the last feeds one
abbrev pub HasOneTop : List Node → Type 0
HasOneTop nodes = (n : ℕ) → n + 1 < length nodes → (a : Above) × (above nodes n ≡ Some a)

-- ---- what elements make of one node

abbrev pub local_at : Arrival → Local
local_at a = Comes a.input a.element

-- the node after these arrivals
abbrev pub node_after : Node → List Arrival → Node
node_after node came = record { inputs = node.inputs; operator = after_all node.operator (map local_at came) }

-- what the node hands up at these arrivals
abbrev pub node_hands : Node → List Arrival → List Element
node_hands node came = hands_all node.operator (map local_at came)

-- the nodes after a local step of one of them
abbrev pub stepped : List Node → ℕ → Local → List Node
stepped [] n l = []
stepped (node ∷ nodes) zero l = record { inputs = node.inputs; operator = after node.operator l } ∷ nodes
stepped (node ∷ nodes) (suc n) l = node ∷ stepped nodes n l

-- ---- the climb

-- elements on their way up, and the node that handed them up
pub record Load : Type 0 where
  pub from : ℕ
  pub elements : List Element

-- what comes to a node that takes them at this input, or to one that does not take them
abbrev pub coming : Option ℕ → List Element → List Arrival
coming None es = []
coming (Some input) es = map (arriving input) es

-- what goes on behind a node that takes them at this input, or that does not take them
abbrev pub going_on : Option ℕ → ℕ → Node → Load → Load
going_on None place node load = load
going_on (Some input) place node load = record { from = place; elements = node_hands node (coming (Some input) load.elements) }

-- the nodes after a climb, what came to each of them, and what is left at the top: what the last node that was reached hands up
pub record Climbed : Type 0 where
  pub nodes : List Node
  pub brought : List (List Arrival)
  pub left : Load

abbrev pub behind_node : Node → List Arrival → Climbed → Climbed
behind_node node came c = record { nodes = node_after node came ∷ c.nodes; brought = came ∷ c.brought; left = c.left }

-- elements climb through these nodes, where the first has this number: a node that has the one they come from among its
-- inputs takes them, and what it hands up goes on; any other node lets them by
abbrev pub climbed_from : ℕ → Load → List Node → Climbed
climbed_from k load [] = record { nodes = []; brought = []; left = load }
climbed_from k load (node ∷ nodes) =
    behind_node node (coming (place_in 0 node.inputs load.from) load.elements)
    (climbed_from (k + 1) (going_on (place_in 0 node.inputs load.from) k node load) nodes)

-- what a node hands up climbs as far as it goes
abbrev pub climbed : List Node → ℕ → List Element → Climbed
climbed nodes n es = climbed_from 0 (record { from = n; elements = es }) nodes

-- a node makes a local step, and what it hands up climbs
abbrev pub climbed_by : List Node → ℕ → Local → Climbed
climbed_by nodes n l = climbed (stepped nodes n l) n (hands (operator_at nodes n) l)

-- the climb where this came to the node at this place before
abbrev pub with_brought : ℕ → List Arrival → Climbed → Climbed
with_brought place came c = record { nodes = c.nodes; brought = slice_set c.brought place came; left = c.left }

-- elements come to the node above, and what it hands up climbs on from there
abbrev pub climbed_above : List Node → Above → List Element → Climbed
climbed_above nodes a es =
    let node = slice_index_or nodes a.place nowhere in
    let came = map (arriving a.input) es in
    with_brought a.place came (climbed (slice_set nodes a.place (node_after node came)) a.place (node_hands node came))

-- nothing climbs where no node is above
abbrev pub climbed_none : List Node → ℕ → List Element → Climbed
climbed_none nodes n es = record { nodes = nodes; brought = map (λ node. []) nodes; left = record { from = n; elements = es } }

-- what came to each node in two climbs
abbrev pub both_brought : List (List Arrival) → List (List Arrival) → List (List Arrival)
both_brought [] more = []
both_brought (came ∷ brought) [] = came ∷ brought
both_brought (came ∷ brought) (later ∷ more) = (came ++ later) ∷ both_brought brought more

-- one climb, and a second one behind it
abbrev pub in_two : Climbed → Climbed → Climbed
in_two c d = record {
  nodes = d.nodes;
  brought = both_brought c.brought d.brought;
  left = record { from = d.left.from; elements = c.left.elements ++ d.left.elements };
}

-- the local step that an event makes at the node at which it begins
abbrev pub local_of : Event → Option Local
local_of (Arrive stream e) = Some (Fed e)
local_of (Taken join ticket) = Some (Own (Take ticket))
local_of (Given join ticket) = Some (Own (Give ticket))
local_of (Swept join input) = Some (Own (Sweep input))
local_of _ = None

abbrev pub climbed_where : List Node → ℕ → Option Local → Climbed
climbed_where nodes n None = record { nodes = nodes; brought = []; left = record { from = n; elements = [] } }
climbed_where nodes n (Some l) = climbed_by nodes n l

-- the climb of an event: from the node at which it begins, or none
abbrev pub climb_of : List Node → Event → Climbed
climb_of nodes event = climbed_where nodes (origin_of nodes event) (local_of event)

-- ---- the laws

-- Where a node feeds none, what it hands up is left; else the node above takes it, and what that one hands up climbs on.
-- Elements climb one after the other: the first of them as far as they go, and then the others.
pub record ClimbsOn (nodes : List Node) : Type 0 where
  pub ends : (n : ℕ) (es : List Element) → above nodes n ≡ None → climbed nodes n es ≡ climbed_none nodes n es
  pub goes_on : (n : ℕ) (es : List Element) (a : Above) → above nodes n ≡ Some a → climbed nodes n es ≡ climbed_above nodes a es
  pub parts : (n : ℕ) (es fs : List Element) → climbed nodes n (es ++ fs) ≡ in_two (climbed nodes n es) (climbed (climbed nodes n es).nodes n fs)
  pub nothing : (n : ℕ) → ((climbed nodes n []).nodes ≡ nodes) × ((climbed nodes n []).left.elements ≡ [])

-- A step at one node of a tree: what that node hands up climbs. Any other node hands up what it makes of what came to it, which
-- is nothing where the climb did not meet it, and the node at which the climb ends hands up what is left.
pub record ClimbsFrom (nodes : List Node) (n : ℕ) (l : Local) (e : PlanStep) : Type 0 where
  pub moves : moved e [] nodes ≡ (climbed_by nodes n l).nodes
  pub comes : (m : ℕ) → m < length nodes → arrivals_in 0 (slice_index_or nodes m nowhere).inputs (batches e [] nodes) ≡ slice_index_or (climbed_by nodes n l).brought m []
  pub begins : slice_index_or (batches e [] nodes) n [] ≡ hands (operator_at nodes n) l
  pub hands : (m : ℕ) → m < length nodes → m ≢ n
      → slice_index_or (batches e [] nodes) m [] ≡ node_hands (slice_index_or nodes m nowhere) (slice_index_or (climbed_by nodes n l).brought m [])
  pub ends : slice_index_or (batches e [] nodes) (climbed_by nodes n l).left.from [] ≡ (climbed_by nodes n l).left.elements

-- an element that is fed to a node, and a step of a join's own, climb from there
pub record StepsClimb (nodes : List Node) : Type 0 where
  pub feed : (n : ℕ) (e : Element) → ClimbsFrom nodes n (Fed e) (Feed n e)
  pub act : (n : ℕ) (s : Step) → ClimbsFrom nodes n (Own s) (Act n s)

-- what a local step and the climb behind it leave: the node at which it is made is one step further, each other node is what
-- came to it makes of it, and so a node to which nothing came is what it was
pub record LeavesNodes (nodes : List Node) (n : ℕ) (l : Local) : Type 0 where
  pub first : n < length nodes → operator_at (climbed_by nodes n l).nodes n ≡ after (operator_at nodes n) l
  pub each : (m : ℕ) → m < length nodes → m ≢ n
      → operator_at (climbed_by nodes n l).nodes m ≡ after_all (operator_at nodes m) (map local_at (slice_index_or (climbed_by nodes n l).brought m []))

-- what an event makes of a tree is its climb
pub record EventClimbs (nodes : List Node) (event : Event) : Type 0 where
  pub moves : nodes_by nodes event ≡ (climb_of nodes event).nodes
  pub comes : (m : ℕ) → arrivals_by nodes event m ≡ slice_index_or (climb_of nodes event).brought m []
  pub ends : slice_index_or (batches (step_of nodes event) [] nodes) (climb_of nodes event).left.from [] ≡ (climb_of nodes event).left.elements
  pub root : HasOneTop nodes → root_hands nodes event ≡ (climb_of nodes event).left.elements
