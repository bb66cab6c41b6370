-- What is seen of the nodes of a core, and which nodes of a history they stand for.
use Rattle.std.specs.Prelude.{ℕ, ◌+◌, ◌^◌, ◌<◌, ◌≤◌, ◌≡◌, true, List, map, length, max, slice_index_or, sum, Option, Some, None, All}
use Rattle.std.specs.Option.{option_to_list}
use Rattle.std.specs.Vec.Iter.{into_iter_items}
use Rattle.std.specs.declared.alloc.Global.{Global}
use Rattle.std.specs.declared.vec.IntoIter.{IntoIter}
use Rattle.pj_pattern.specs.Patterns.{Pattern}
use Rattle.pj_pattern.specs.declared.element.Element.{Element}
use Rattle.pj_pattern.specs.declared.element.Element.TheVariants.{Tuple, Punct}
use Rattle.pj_events.specs.Join.{In, JoinData, JoinState, PunctAt, TupleAt, arities, arity, has, inputs}
use Rattle.pj_value.specs.declared.values.Value.{Value}
use Rattle.pj_events.specs.Operators.{GroupSpec, Sent}
use Rattle.pj_group.specs.Steps.{Fits}
use Rattle.pj_group.specs.Tables.{StandsFor as HoldsGroup}
use Rattle.pj_events.specs.declared.events.Out.{Out}
use Rattle.pj_events.specs.Outcomes.{elements_out}
use Rattle.pj_events.specs.Plan.{Operator, Stream, Select, Project, Union, Join, Group, Node, Comes, after, hands, operator_at}
use Rattle.pj_events.specs.CoreKept.{KeptOperator, NothingKept, UnionKept, JoinKept, GroupKept, kept_in}
use Rattle.pj_laws.specs.Climb.{Above, above, IsTree}
use Rattle.pj_group.specs.declared.group.GroupStop.{GroupStop}
use Rattle.pj_group.specs.declared.group.GroupStop.TheVariants.{Limit as GroupFull, NoMemory as GroupWants}
use Rattle.pj_join.specs.Joins.{IsTaken, JoinView}
use Rattle.pj_join.specs.declared.stop.JoinStop.{JoinStop}
use Rattle.pj_join.specs.declared.stop.JoinStop.TheVariants.{Limit as JoinFull, NoMemory as JoinWants}
use Rattle.pj_operator.specs.declared.operator.OperatorState.{OperatorState}
use Rattle.pj_operator.specs.declared.operator.OperatorState.TheVariants.{Stream as RunningStream, Select as RunningSelect, Project as RunningProject, Union as RunningUnion, Join as RunningJoin, Group as RunningGroup}
use Rattle.pj_operator.specs.declared.operator.RunningOperator.{RunningOperator}
use Rattle.pj_operator.specs.declared.operator.Emitted.{Emitted}
use Rattle.pj_operator.specs.declared.operator.Emitted.TheVariants.{AtMostOne, Rows, Puncts, All as EmittedElements, Found}

-- ---- tickets

-- the ticket is taken and not given at the join that this is kept of
abbrev pub IsTakenIn : KeptOperator → ℕ → Type 0
IsTakenIn (JoinKept kept) ticket = IsTaken kept ticket
IsTakenIn NothingKept ticket = ⊥
IsTakenIn (UnionKept union) ticket = ⊥
IsTakenIn (GroupKept rows) ticket = ⊥

-- how many tickets are pending at the node that this is kept of
abbrev pub pending_kept : KeptOperator → ℕ
pending_kept (JoinKept kept) = length kept.pending
pending_kept NothingKept = 0
pending_kept (UnionKept union) = 0
pending_kept (GroupKept rows) = 0

-- ---- what stays of a node whatever comes to it

-- of a union the number of its inputs and of their columns, of a join its number, what it joins by, and its limit
pub data Kind : Type 0 where
  StreamKind : Kind
  SelectKind : List Pattern → Kind
  ProjectKind : List ℕ → Kind
  UnionKind : ℕ → ℕ → Kind
  JoinKind : ℕ → JoinData → ℕ → Kind
  GroupKind : GroupSpec → ℕ → Kind

abbrev pub kind_of : OperatorState → Kind
kind_of RunningStream = StreamKind
kind_of (RunningSelect test) = SelectKind test
kind_of (RunningProject columns) = ProjectKind columns
kind_of (RunningUnion union) = UnionKind union.inputs union.arity
kind_of (RunningJoin join) = JoinKind join.node join.spec join.limit
kind_of (RunningGroup group) = GroupKind group.spec group.limit

-- the kind of a node, the node and the input that it feeds, and how many columns it hands up
pub record Frame : Type 0 where
  pub kind : Kind
  pub above : Option (ℕ × ℕ)
  pub width : ℕ

abbrev pub frame_of : RunningOperator → Frame
frame_of operator = record { kind = kind_of operator.state; above = operator.above; width = operator.width }

abbrev pub frames_in : List RunningOperator → List Frame
frames_in operators = map frame_of operators

-- stands for a node where there is none
abbrev pub no_operator : RunningOperator
no_operator = record { state = RunningStream; above = None; width = 0; peak = 0 }

abbrev pub running_at : List RunningOperator → ℕ → RunningOperator
running_at operators n = slice_index_or operators n no_operator

abbrev pub no_frame : Frame
no_frame = record { kind = StreamKind; above = None; width = 0 }

abbrev pub frame_at : List Frame → ℕ → Frame
frame_at frames n = slice_index_or frames n no_frame

-- an element of so many columns may come to a node of this kind at this input
abbrev pub FitsKind : Kind → ℕ → ℕ → Type 0
FitsKind StreamKind input width = Unit {0}
FitsKind (SelectKind test) input width = Unit {0}
FitsKind (ProjectKind columns) input width = All (λ column. column < width) columns
FitsKind (UnionKind n arity) input width = (input < n) × (width ≡ arity)
FitsKind (JoinKind node spec limit) input width = (input < inputs spec) × (width ≡ arity spec input)
FitsKind (GroupKind spec limit) input width = Fits spec width × (length spec.keys + length spec.aggs ≤ 120)

-- a join or a group has this limit
abbrev pub HasLimit : ℕ → Kind → Type 0
HasLimit limit StreamKind = Unit {0}
HasLimit limit (SelectKind test) = Unit {0}
HasLimit limit (ProjectKind columns) = Unit {0}
HasLimit limit (UnionKind n arity) = Unit {0}
HasLimit limit (JoinKind node spec own) = own ≡ limit
HasLimit limit (GroupKind spec own) = own ≡ limit

abbrev pub HaveLimit : ℕ → List Frame → Type 0
HaveLimit limit frames = (n : ℕ) → n < length frames → HasLimit limit (frame_at frames n).kind

-- how many columns a node of this kind hands up, where elements of so many come to it
abbrev pub width_up : Kind → ℕ → ℕ
width_up StreamKind width = width
width_up (SelectKind test) width = width
width_up (ProjectKind columns) width = length columns
width_up (UnionKind n arity) width = arity
width_up (JoinKind node spec limit) width = sum (arities spec)
width_up (GroupKind spec limit) width = length spec.keys + length spec.aggs

-- where a node feeds another, that one stands behind it, takes what it hands up, and hands up as many columns as come of that
abbrev pub IsLinked : List Frame → ℕ → Option (ℕ × ℕ) → ℕ → Type 0
IsLinked frames n None width = Unit {0}
IsLinked frames n (Some (place, input)) width =
    (n < place) × (place < length frames) × FitsKind (frame_at frames place).kind input width
    × ((frame_at frames place).width ≡ width_up (frame_at frames place).kind width)

-- a join hands up as many columns as its inputs have
abbrev pub HasOwnWidth : Kind → ℕ → Type 0
HasOwnWidth StreamKind width = Unit {0}
HasOwnWidth (SelectKind test) width = Unit {0}
HasOwnWidth (ProjectKind columns) width = Unit {0}
HasOwnWidth (UnionKind n arity) width = Unit {0}
HasOwnWidth (JoinKind node spec limit) width = width ≡ sum (arities spec)
HasOwnWidth (GroupKind spec limit) width = Unit {0}

abbrev pub AreLinked : List Frame → Type 0
AreLinked frames =
    (n : ℕ) → n < length frames → IsLinked frames n (frame_at frames n).above (frame_at frames n).width × HasOwnWidth (frame_at frames n).kind (frame_at frames n).width

-- ---- what is kept

abbrev pub kept_seen : OperatorState → KeptOperator
kept_seen RunningStream = NothingKept
kept_seen (RunningSelect test) = NothingKept
kept_seen (RunningProject columns) = NothingKept
kept_seen (RunningUnion union) = UnionKept union.state
kept_seen (RunningJoin join) = JoinKept join.kept
kept_seen (RunningGroup group) = GroupKept group.table

-- joins and groups count what reaches them
abbrev pub count_in : OperatorState → ℕ
count_in RunningStream = 0
count_in (RunningSelect test) = 0
count_in (RunningProject columns) = 0
count_in (RunningUnion union) = 0
count_in (RunningJoin join) = join.kept.next
count_in (RunningGroup group) = group.count

abbrev pub count_seen : RunningOperator → ℕ
count_seen operator = count_in operator.state

-- of so many elements that reached a node of this kind, how many it has counted
abbrev pub counted_by : Kind → ℕ → ℕ
counted_by StreamKind n = 0
counted_by (SelectKind test) n = 0
counted_by (ProjectKind columns) n = 0
counted_by (UnionKind inputs arity) n = 0
counted_by (JoinKind node spec limit) n = n
counted_by (GroupKind spec limit) n = n

abbrev pub stored_kept : KeptOperator → ℕ
stored_kept NothingKept = 0
stored_kept (UnionKept union) = 0
stored_kept (JoinKept kept) = length kept.stored
stored_kept (GroupKept rows) = 0

-- the peak is raised before a sweep alone, so that what is stored now may be more
abbrev pub peak_seen : RunningOperator → ℕ
peak_seen operator = max operator.peak (stored_kept (kept_seen operator.state))

-- ---- what nodes stand for

-- no tuple is taken or given before it comes
abbrev pub IsBelow : JoinState → Type 0
IsBelow s = ((u : ℕ) → has s.taken u ≡ true → u < s.next) × ((u : ℕ) → has s.given u ≡ true → u < s.next)

abbrev pub IsBelowIn : Operator → Type 0
IsBelowIn (Stream schema sent) = Unit {0}
IsBelowIn (Select test) = Unit {0}
IsBelowIn (Project columns) = Unit {0}
IsBelowIn (Union n u) = Unit {0}
IsBelowIn (Join spec s) = IsBelow s
IsBelowIn (Group spec rows) = Unit {0}

-- what an operator is for, which no element changes
pub data Role : Type 0 where
  StreamRole : Role
  SelectRole : List Pattern → Role
  ProjectRole : List ℕ → Role
  UnionRole : ℕ → Role
  JoinRole : JoinData → Role
  GroupRole : GroupSpec → Role

abbrev pub role_in : Operator → Role
role_in (Stream schema sent) = StreamRole
role_in (Select test) = SelectRole test
role_in (Project columns) = ProjectRole columns
role_in (Union n u) = UnionRole n
role_in (Join spec s) = JoinRole spec
role_in (Group spec rows) = GroupRole spec

abbrev pub role_of : Kind → Role
role_of StreamKind = StreamRole
role_of (SelectKind test) = SelectRole test
role_of (ProjectKind columns) = ProjectRole columns
role_of (UnionKind n arity) = UnionRole n
role_of (JoinKind node spec limit) = JoinRole spec
role_of (GroupKind spec limit) = GroupRole spec

-- the operator is of this kind
abbrev pub IsKind : Kind → Operator → Type 0
IsKind kind operator = role_of kind ≡ role_in operator

-- the node is of the operator's kind, and keeps what it has to
pub record IsAs (state : OperatorState) (operator : Operator) : Type 0 where
  pub kind : IsKind (kind_of state) operator
  pub kept : kept_seen state ≡ kept_in operator
  pub below : IsBelowIn operator

abbrev pub above_pair : Option (ℕ × ℕ) → Option Above
above_pair None = None
above_pair (Some (place, input)) = Some (record { place = place; input = input })

-- the nodes are a tree, each feeds what is seen of it, and each is as it is seen
pub record AreAs (operators : List RunningOperator) (nodes : List Node) : Type 0 where
  pub tree : IsTree nodes
  pub long : length operators ≡ length nodes
  pub links : (n : ℕ) → n < length operators → above nodes n ≡ above_pair (running_at operators n).above
  pub each : (n : ℕ) → n < length operators → IsAs (running_at operators n).state (operator_at nodes n)

-- ---- an operator receives an element

abbrev pub width_of : Element → ℕ
width_of (Tuple row) = length row
width_of (Punct patterns) = length patterns

-- each of these elements has so many columns
abbrev pub AreWide : ℕ → List Element → Type 0
AreWide width es = (e : Element) → In e es → width_of e ≡ width

-- the elements among those that are left
abbrev pub elements_left : IntoIter Out Global → List Element
elements_left found = elements_out (into_iter_items found)

-- what is emitted
abbrev pub emitted_list : Emitted → List Element
emitted_list (AtMostOne element) = option_to_list element
emitted_list (Rows rows) = map Tuple (into_iter_items rows)
emitted_list (Puncts puncts) = map Punct (into_iter_items puncts)
emitted_list (EmittedElements elements) = into_iter_items elements
emitted_list (Found found) = elements_left found

-- the state is as the operator of the history after the element, and what is emitted is what that hands up
pub record Follows (state : OperatorState) (up : Emitted) (operator : Operator) (input : ℕ) (element : Element) : Type 0 where
  pub stands : IsAs state (after operator (Comes input element))
  pub hands : emitted_list up ≡ hands operator (Comes input element)

-- as many elements as may have reached the node
abbrev pub IsFull : OperatorState → Type 0
IsFull RunningStream = ⊥
IsFull (RunningSelect test) = ⊥
IsFull (RunningProject columns) = ⊥
IsFull (RunningUnion union) = ⊥
IsFull (RunningJoin join) = join.kept.next ≡ join.limit
IsFull (RunningGroup group) = group.count ≡ group.limit

-- why a node takes no element, where it is a group
abbrev pub stop_of_group : GroupStop → JoinStop
stop_of_group GroupFull = JoinFull
stop_of_group GroupWants = JoinWants

-- ---- what always holds of a node

-- the join has such an input, and that one so many columns
abbrev pub FitsInput : JoinData → ℕ → ℕ → Type 0
FitsInput spec input width = (input < inputs spec) × (width ≡ arity spec input)

-- every ticket that is not given is below the next, no more elements came than may, of no sort are there more than came, and
-- what is stored and what waits has as many columns as its input
pub record IsOrderlyJoin (join : JoinView) : Type 0 where
  pub below : (t : ℕ) → has join.kept.opened t ≡ true → t < join.kept.next
  pub next : join.kept.next ≤ join.limit
  pub limit : join.limit ≤ 2 ^ 40
  pub pending : length join.kept.pending ≤ join.kept.next
  pub opened : length join.kept.opened ≤ join.kept.next
  pub stored : length join.kept.stored ≤ join.kept.next
  pub waiting : length join.kept.waiting ≤ join.kept.next
  pub rows_fit : (x : TupleAt) → In x join.kept.stored → FitsInput join.spec x.input (length x.row)
  pub puncts_fit : (p : PunctAt) → In p join.kept.waiting → FitsInput join.spec p.input (length p.patterns)

-- what waits at a union has as many columns as it; a group keeps what comes of some rows
abbrev pub IsOrderly : OperatorState → Type 0
IsOrderly RunningStream = Unit {0}
IsOrderly (RunningSelect test) = Unit {0}
IsOrderly (RunningProject columns) = Unit {0}
IsOrderly (RunningUnion union) = (p : Sent) → In p union.state.waiting → length p.patterns ≡ union.arity
IsOrderly (RunningJoin join) = IsOrderlyJoin join
IsOrderly (RunningGroup group) = (rows : List (List Value)) × HoldsGroup group rows

-- an orderly node stays so, and what is taken and not given there stays so
abbrev pub KeepsOpen : OperatorState → OperatorState → Type 0
KeepsOpen old new = IsOrderly old → IsOrderly new × ((t : ℕ) → IsTakenIn (kept_seen old) t → IsTakenIn (kept_seen new) t)
