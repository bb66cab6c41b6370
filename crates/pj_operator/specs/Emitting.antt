-- How what a running operator emits goes up.
use Rattle.std.specs.Prelude.{ℕ, ◌+◌, ◌<◌, ◌≤◌, ◌≡◌, List, [], ◌++◌, map, length, slice_index_or, slice_set, Option, Some, None}
use Rattle.pj_pattern.specs.declared.element.Element.{Element}
use Rattle.pj_events.specs.declared.events.Out.{Out}
use Rattle.pj_events.specs.declared.events.Stop.{Stop}
use Rattle.pj_events.specs.declared.events.Stop.TheVariants.{Limit, NoMemory}
use Rattle.pj_events.specs.History.{out_of}
use Rattle.pj_events.specs.Plan.{Operator, Node}
use Rattle.pj_events.specs.Outcomes.{Arrival, beyond_of, climb, way_up}
use Rattle.pj_laws.specs.Climb.{Climbed, climbed}
use Rattle.pj_operator.specs.declared.operator.RunningOperator.{RunningOperator}
use Rattle.pj_operator.specs.declared.operator.Emitted.{Emitted}
use Rattle.pj_operator.specs.declared.operator.OperatorState.{OperatorState}
use Rattle.pj_operator.specs.Operators.{AreAs, AreLinked, AreWide, Follows, HaveLimit, IsAs, IsFull, IsOrderly, IsTakenIn, Kind, running_at, count_seen, counted_by, frame_of, frames_in, emitted_list, kept_seen, kind_of, width_of, width_up}

-- the nodes of a core, and what is to be drained
pub record Scene : Type 0 where
  pub operators : List RunningOperator
  pub outs : List Out

-- how many elements a node has counted
abbrev pub count_at : List RunningOperator → ℕ → ℕ
count_at operators n = count_seen (running_at operators n)

abbrev pub kind_at : List RunningOperator → ℕ → Kind
kind_at operators n = kind_of (running_at operators n).state

-- each node has counted as many more elements as these brought there
abbrev pub AreCounted : List RunningOperator → List RunningOperator → List (List Arrival) → Type 0
AreCounted old new brought = (n : ℕ) → n < length old → count_at new n ≡ count_at old n + counted_by (kind_at old n) (length (slice_index_or brought n []))

-- each node has counted what reached it, where so many elements reached each
abbrev pub HaveCounted : List RunningOperator → (ℕ → ℕ) → Type 0
HaveCounted operators reached = (n : ℕ) → n < length operators → count_at operators n ≡ counted_by (kind_at operators n) (reached n)

-- the operators stand for the nodes after the elements went up, each has counted what it brought there, and what is left is handed out
pub record Leaves (old new : Scene) (c : Climbed) : Type 0 where
  pub stands : AreAs new.operators c.nodes
  pub hands : new.outs ≡ old.outs ++ map out_of c.left.elements
  pub counts : AreCounted old.operators new.operators c.brought

-- the node at which the first of these elements goes beyond the limit on its way up, through at most so many levels, where so
-- many elements have reached each node
abbrev pub beyond_in : ℕ → ℕ → (ℕ → ℕ) → List Node → ℕ → List Element → Option ℕ
beyond_in depth limit reached nodes from es = beyond_of (climb depth limit (way_up reached 0 from nodes) es)

-- wherever the operators stand, with whatever limit they have, and whatever they have counted, that node is this
abbrev pub GoBeyond : List RunningOperator → ℕ → List Element → Option ℕ → Type 0
GoBeyond operators from es node =
    (limit : ℕ) → HaveLimit limit (frames_in operators) → (reached : ℕ → ℕ) → HaveCounted operators reached → (nodes : List Node) → AreAs operators nodes
    → (depth : ℕ) → length (way_up reached 0 from nodes) ≤ depth → beyond_in depth limit reached nodes from es ≡ node

-- what a node emitted went as far as it goes, to nodes behind it alone, and nothing of it went beyond the limit
pub record Emits (old new : Scene) (from : ℕ) (es : List Element) : Type 0 where
  pub below : (n : ℕ) → n ≤ from → running_at new.operators n ≡ running_at old.operators n
  pub emits : (nodes : List Node) → AreAs old.operators nodes → Leaves old new (climbed nodes from es)
  pub within : GoBeyond old.operators from es None

-- a limit stops the emission that brings one element beyond it, at that node; memory may be wanting at any time
abbrev pub IsEmitStop : List RunningOperator → ℕ → List Element → Stop → Type 0
IsEmitStop operators from es (Limit node) = GoBeyond operators from es (Some node)
IsEmitStop operators from es NoMemory = Unit {0}

abbrev pub state_at : List RunningOperator → ℕ → OperatorState
state_at operators n = (running_at operators n).state

abbrev pub AreOrderly : List RunningOperator → Type 0
AreOrderly operators = (n : ℕ) → IsOrderly (state_at operators n)

-- orderly nodes stay so, and what is taken and not given stays so
abbrev pub StayOpen : List RunningOperator → List RunningOperator → Type 0
StayOpen old new = AreOrderly old → AreOrderly new × ((n t : ℕ) → IsTakenIn (kept_seen (state_at old n)) t → IsTakenIn (kept_seen (state_at new n)) t)

-- What a node emits may go up: where a node feeds another that one takes it, all nodes are orderly, and the elements have as
-- many columns as the node hands up.
pub record MayEmit (operators : List RunningOperator) (from : ℕ) (es : List Element) : Type 0 where
  pub linked : AreLinked (frames_in operators)
  pub orderly : AreOrderly operators
  pub wide : AreWide (running_at operators from).width es

-- what stays where elements go up
pub record StaysAs (old new : List RunningOperator) : Type 0 where
  pub frames : frames_in new ≡ frames_in old
  pub peaks : map (λ operator. operator.peak) new ≡ map (λ operator. operator.peak) old
  pub opens : StayOpen old new

-- a node received an element, and this is what it emits
pub record HasReceived (old new : List RunningOperator) (place input : ℕ) (element : Element) (up : Emitted) : Type 0 where
  pub operator : RunningOperator
  pub changes : new ≡ slice_set old place operator
  pub frame : frame_of operator ≡ frame_of (running_at old place)
  pub follows : (model : Operator) → IsAs (running_at old place).state model → Follows operator.state up model input element
  pub count : count_seen operator ≡ count_at old place + counted_by (kind_at old place) 1
  pub room : ¬ IsFull (running_at old place).state
  pub wide : IsOrderly (running_at old place).state → AreWide (width_up (kind_at old place) (width_of element)) (emitted_list up)

-- why a node does not receive an element
abbrev pub IsReceiveStop : List RunningOperator → ℕ → Stop → Type 0
IsReceiveStop operators place (Limit node) = (node ≡ place) × IsFull (running_at operators place).state
IsReceiveStop operators place NoMemory = Unit {0}
