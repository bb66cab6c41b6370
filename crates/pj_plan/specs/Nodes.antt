-- What a node is: its inputs and its parent, and which nodes are streams and joins; the streams of a plan.
use Rattle.std.specs.Prelude.{ℕ, ◌+◌, Bool, true, false, ◌==◌, List, [], ◌∷◌, Option, Some, None, if◌then◌else◌, filter, map, slice_index_or}
use Rattle.pj_shape.specs.declared.columns.Column.{Column}
use Rattle.pj_shape.specs.declared.joins.JoinSpec.{JoinSpec}
use Rattle.pj_plan.specs.declared.node.Node.{Node}
use Rattle.pj_plan.specs.declared.node.Node.TheVariants.{Stream, Select, Project, Union, Join, Group}
use Rattle.pj_plan.specs.declared.node.PlanNode.{PlanNode}

-- the numbers of the nodes that feed it, in order of its inputs
abbrev pub inputs_of : Node → List ℕ
inputs_of (Stream schemes) = []
inputs_of (Select input test) = input ∷ []
inputs_of (Project input columns) = input ∷ []
inputs_of (Union inputs) = inputs
inputs_of (Join inputs spec) = inputs
inputs_of (Group input spec) = input ∷ []

-- the schemes that a stream states; none where it is no stream
abbrev pub stated_in : Node → Option (List (List Bool))
stated_in (Stream schemes) = Some schemes
stated_in (Select input test) = None
stated_in (Project input columns) = None
stated_in (Union inputs) = None
stated_in (Join inputs spec) = None
stated_in (Group input spec) = None

-- the shape of a join; none where it is no join
abbrev pub join_in : Node → Option JoinSpec
join_in (Stream schemes) = None
join_in (Select input test) = None
join_in (Project input columns) = None
join_in (Union inputs) = None
join_in (Join inputs spec) = Some spec
join_in (Group input spec) = None

abbrev pub is_stream : Node → Bool
is_stream (Stream schemes) = true
is_stream (Select input test) = false
is_stream (Project input columns) = false
is_stream (Union inputs) = false
is_stream (Join inputs spec) = false
is_stream (Group input spec) = false

abbrev pub is_join : Node → Bool
is_join (Stream schemes) = false
is_join (Select input test) = false
is_join (Project input columns) = false
is_join (Union inputs) = false
is_join (Join inputs spec) = true
is_join (Group input spec) = false

-- the numbers of those of these nodes, counted from this number on, that are of a sort
abbrev pub numbers_from : (Node → Bool) → ℕ → List PlanNode → List ℕ
numbers_from sort number [] = []
numbers_from sort number (node ∷ nodes) =
    if sort node.node then number ∷ numbers_from sort (number + 1) nodes else numbers_from sort (number + 1) nodes

-- the numbers of the streams
abbrev pub streams_of : List PlanNode → List ℕ
streams_of nodes = numbers_from is_stream 0 nodes

-- the numbers of the joins
abbrev pub joins_of : List PlanNode → List ℕ
joins_of nodes = numbers_from is_join 0 nodes

-- the place of a number among a node's inputs, from this position on
abbrev pub input_from : ℕ → ℕ → List ℕ → ℕ → Option (ℕ × ℕ)
input_from node position [] number = None
input_from node position (input ∷ inputs) number = if input == number then Some (node, position) else input_from node (position + 1) inputs number

abbrev pub or_else : {A : Type 0} → Option A → Option A → Option A
or_else None other = other
or_else (Some x) other = Some x

-- the node that this node feeds, and at which of its inputs, if it feeds one of those from this number on
abbrev pub parent_from : ℕ → List PlanNode → ℕ → Option (ℕ × ℕ)
parent_from at [] number = None
parent_from at (node ∷ nodes) number = or_else (input_from at 0 (inputs_of node.node) number) (parent_from (at + 1) nodes number)

-- the node that the node of this number feeds, and at which of its inputs; none at the output
abbrev pub parent_of : List PlanNode → ℕ → Option (ℕ × ℕ)
parent_of nodes number = parent_from 0 nodes number

-- the streams among these nodes, in order
abbrev pub streams_in : List PlanNode → List PlanNode
streams_in nodes = filter (λ node. is_stream node.node) nodes

abbrev pub schema_in : PlanNode → List Column
schema_in node = node.schema

-- the columns of one of these streams, by its number among them
abbrev pub stream_columns : List PlanNode → ℕ → List Column
stream_columns streams stream = slice_index_or (map schema_in streams) stream []
