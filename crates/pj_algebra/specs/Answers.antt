-- What a plan answers over complete lists, node by node: rows by nested loops, and the punctuations that go with them.
use Rattle.std.specs.Prelude.{ℕ, ◌+◌, ◌≡◌, Bool, true, false, List, [], ◌∷◌, ◌++◌, if◌then◌else◌, map, filter, flat_map, length, pred, sum, take, drop, slice_index_or}
use Rattle.pj_value.specs.declared.values.Value.{Value}
use Rattle.pj_shape.specs.Sound.{arities_of}
use Rattle.pj_shape.specs.Joining.{join_answer}
use Rattle.pj_pattern.specs.Patterns.{Pattern}
use Rattle.pj_pattern.specs.Columns.{matches_row, others_wild, widen_of, picked_patterns}
use Rattle.pj_events.specs.Operators.{picked_cells, group_rows}
use Rattle.pj_plan.specs.declared.node.Node.{Node}
use Rattle.pj_plan.specs.declared.node.Node.TheVariants.{Stream, Select, Project, Union, Join, Group}
use Rattle.pj_plan.specs.declared.node.PlanNode.{PlanNode}
use Rattle.pj_plan.specs.Canonical.{node_at}
use Rattle.pj_plan.specs.Nodes.{inputs_of, is_stream}

-- the list of this number
abbrev pub list_of : {A : Type 0} → List (List A) → ℕ → List A
list_of lists number = slice_index_or lists number []

-- ---- one node

-- the rows of a node, by those of the nodes before it; of a stream, those that arrived
abbrev pub node_rows : List (List (List Value)) → List (List Value) → Node → List (List Value)
node_rows before arrived (Stream schemes) = arrived
node_rows before arrived (Select input test) = filter (matches_row test) (list_of before input)
node_rows before arrived (Project input columns) = map (picked_cells columns) (list_of before input)
node_rows before arrived (Union inputs) = flat_map (list_of before) inputs
node_rows before arrived (Join inputs spec) = join_answer spec.classes (map (list_of before) inputs)
node_rows before arrived (Group input spec) = group_rows spec (list_of before input)

-- those of these punctuations that are a wildcard in every other column, cut to these columns
abbrev pub cut_to : List ℕ → List (List Pattern) → List (List Pattern)
cut_to columns puncts = map (picked_patterns columns) (filter (others_wild columns 0) puncts)

-- a punctuation of the input at this place, with wildcards for the columns of the inputs before it and of those behind it
abbrev pub widened : List ℕ → ℕ → List Pattern → List Pattern
widened widths place patterns = widen_of (sum (take place widths)) (sum (drop (place + 1) widths)) patterns

-- the punctuations of the inputs from this place on, each widened, where the inputs have these widths
abbrev pub widened_from : List ℕ → ℕ → List (List (List Pattern)) → List (List Pattern)
widened_from widths place [] = []
widened_from widths place (puncts ∷ lists) = map (widened widths place) puncts ++ widened_from widths (place + 1) lists

-- the punctuations of a node, by those of the nodes before it; of a stream, those that arrived
abbrev pub node_puncts : List (List (List Pattern)) → List (List Pattern) → Node → List (List Pattern)
node_puncts before arrived (Stream schemes) = arrived
node_puncts before arrived (Select input test) = list_of before input
node_puncts before arrived (Project input columns) = cut_to columns (list_of before input)
node_puncts before arrived (Union inputs) = flat_map (list_of before) inputs
node_puncts before arrived (Join inputs spec) = widened_from (arities_of spec.inputs) 0 (map (list_of before) inputs)
node_puncts before arrived (Group input spec) = map (widen_of 0 (length spec.aggs)) (cut_to spec.keys (list_of before input))

-- ---- all nodes

-- the lists that are left for the streams behind this node: a stream takes the first
abbrev pub left_behind : {A : Type 0} → Node → List (List A) → List (List A)
left_behind node lists = if is_stream node then drop 1 lists else lists

-- what the nodes before give, and behind it what these give in order, where these lists arrived at the streams among these
abbrev pub nodes_give : {A : Type 0} → (List (List A) → List A → Node → List A) → List (List A) → List (List A) → List PlanNode → List (List A)
nodes_give gives before lists [] = before
nodes_give gives before lists (node ∷ nodes) =
    nodes_give gives (before ++ gives before (list_of lists 0) node.node ∷ []) (left_behind node.node lists) nodes

-- the rows of each node, where these lists of rows arrived at the streams, in their order
abbrev pub rows_by_node : List PlanNode → List (List (List Value)) → List (List (List Value))
rows_by_node nodes lists = nodes_give node_rows [] lists nodes

-- the punctuations of each node, where these lists of punctuations arrived at the streams, in their order
abbrev pub puncts_by_node : List PlanNode → List (List (List Pattern)) → List (List (List Pattern))
puncts_by_node nodes lists = nodes_give node_puncts [] lists nodes

-- the answer of a plan: the rows of its output, the last node
abbrev pub answer_of : List PlanNode → List (List (List Value)) → List (List Value)
answer_of nodes lists = list_of (rows_by_node nodes lists) (pred (length nodes))

-- the punctuations of a plan: those of its output
abbrev pub punctuations_of : List PlanNode → List (List (List Pattern)) → List (List Pattern)
punctuations_of nodes lists = list_of (puncts_by_node nodes lists) (pred (length nodes))

-- how many elements come to a node in all, where these rows and these punctuations arrived at the streams: those of its inputs
abbrev pub elements_to : List PlanNode → List (List (List Value)) → List (List (List Pattern)) → ℕ → ℕ
elements_to nodes rows puncts number =
    let inputs = inputs_of (node_at nodes number) in
    length (flat_map (list_of (rows_by_node nodes rows)) inputs) + length (flat_map (list_of (puncts_by_node nodes puncts)) inputs)

-- joins and groups count the elements that reach them
abbrev pub is_counted : Node → Bool
is_counted (Stream schemes) = false
is_counted (Select input test) = false
is_counted (Project input columns) = false
is_counted (Union inputs) = false
is_counted (Join inputs spec) = true
is_counted (Group input spec) = true

-- the node is a join or a group
abbrev pub IsCounted : List PlanNode → ℕ → Type 0
IsCounted nodes node = is_counted (node_at nodes node) ≡ true
