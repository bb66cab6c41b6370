-- The node that a statement makes of the nodes before it.
use Rattle.std.specs.Prelude.{ℕ, suc, ◌+◌, Bool, List, [], ◌∷◌, ◌++◌, Option, Some, None, if◌then◌else◌, map, flat_map}
use Rattle.std.specs.Option.{option_or}
use Rattle.std.specs.Str.{bytes_eq}
use Rattle.pj_value.specs.declared.values.Kind.{Kind}
use Rattle.pj_value.specs.declared.values.Kind.TheVariants.{Int}
use Rattle.pj_shape.specs.declared.columns.Column.{Column}
use Rattle.pj_shape.specs.declared.joins.ClassCol.{ClassCol}
use Rattle.pj_shape.specs.declared.groups.Agg.{Agg}
use Rattle.pj_shape.specs.declared.groups.Agg.TheVariants.{Count as CountAgg, Sum as SumAgg, Min as MinAgg, Max as MaxAgg}
use Rattle.pj_pattern.specs.declared.pattern.Form.{Form}
use Rattle.pj_pattern.specs.declared.pattern.Form.TheVariants.{Wild}
use Rattle.pj_pattern.specs.Meets.{meet_of}
use Rattle.pj_plan.specs.declared.node.Node.{Node}
use Rattle.pj_plan.specs.declared.node.Node.TheVariants.{Stream as StreamNode, Select as SelectNode, Project as ProjectNode, Union as UnionNode, Join as JoinNode, Group as GroupNode}
use Rattle.pj_plan.specs.declared.node.PlanNode.{PlanNode}
use Rattle.pj_plan.specs.declared.node.Draft.{Draft}
use Rattle.pj_plan.specs.declared.statement.Statement.{Statement}
use Rattle.pj_plan.specs.declared.statement.Statement.TheVariants.{Plan, Stream, Scheme, Select, Project, Union, Join, Group, Output, Bad}
use Rattle.pj_plan.specs.declared.statement.ColumnWord.{ColumnWord}
use Rattle.pj_plan.specs.declared.statement.Renamed.{Renamed}
use Rattle.pj_plan.specs.declared.statement.TestWord.{TestWord}
use Rattle.pj_plan.specs.declared.statement.Test.{Test}
use Rattle.pj_plan.specs.declared.statement.Test.TheVariants.{One, Mixed}
use Rattle.pj_plan.specs.declared.statement.AggWord.{AggWord}
use Rattle.pj_plan.specs.declared.statement.AggWord.TheVariants.{Count, Sum, Min, Max}
use Rattle.pj_plan.specs.declared.statement.NamedAgg.{NamedAgg}
use Rattle.pj_plan.specs.Parts.{parts_of}
use Rattle.pj_plan.specs.Words.{plan_version, new_name, is_among}

-- ---- nodes and columns by their names

-- the number of the node of this name; that of the next node where there is none
abbrev pub number_of : List PlanNode → List ℕ → ℕ
number_of [] name = 0
number_of (node ∷ nodes) name = if bytes_eq name node.name then 0 else suc (number_of nodes name)

-- the columns of the node of this name
abbrev pub schema_of : List PlanNode → List ℕ → List Column
schema_of [] name = []
schema_of (node ∷ nodes) name = if bytes_eq name node.name then node.schema else schema_of nodes name

-- the columns of the nodes of these names, one node behind the other
abbrev pub columns_of : List PlanNode → List (List ℕ) → List Column
columns_of nodes names = flat_map (schema_of nodes) names

-- the number of the column of this name; their number where there is none
abbrev pub column_number : List Column → List ℕ → ℕ
column_number [] name = 0
column_number (column ∷ columns) name = if bytes_eq name column.name then 0 else suc (column_number columns name)

-- the kind of the column of this name
abbrev pub column_kind : List Column → List ℕ → Kind
column_kind [] name = Int
column_kind (column ∷ columns) name = if bytes_eq name column.name then column.kind else column_kind columns name

-- ---- the columns of the result

abbrev pub stream_column : ColumnWord → Column
stream_column word = record { name = word.name; kind = word.kind }

-- the old column under the new name
abbrev pub renamed_column : List Column → Renamed → Column
renamed_column columns word = record { name = word.new; kind = column_kind columns word.old }

abbrev pub key_column : List Column → List ℕ → Column
key_column columns name = record { name = name; kind = column_kind columns name }

-- a count and a sum are ints, and the least and the greatest are of their column's kind
abbrev pub agg_kind : List Column → AggWord → Kind
agg_kind columns Count = Int
agg_kind columns (Sum column) = Int
agg_kind columns (Min column) = column_kind columns column
agg_kind columns (Max column) = column_kind columns column

abbrev pub agg_column : List Column → NamedAgg → Column
agg_column columns word = record { name = word.name; kind = agg_kind columns word.agg }

-- a union has the columns of its first input
abbrev pub first_schema : List PlanNode → List (List ℕ) → List Column
first_schema nodes [] = []
first_schema nodes (name ∷ names) = schema_of nodes name

-- the group columns, and behind them the aggregates
abbrev pub group_schema : List Column → List (List ℕ) → List NamedAgg → List Column
group_schema columns keys aggs = map (key_column columns) keys ++ map (agg_column columns) aggs

-- the columns of the node that is declared
abbrev pub result_schema : Draft → Statement → List Column
result_schema draft (Plan version) = []
result_schema draft (Stream name columns) = map stream_column columns
result_schema draft (Scheme stream marks) = []
result_schema draft (Select name input tests) = schema_of draft.nodes input
result_schema draft (Project name input columns) = map (renamed_column (schema_of draft.nodes input)) columns
result_schema draft (Union name inputs) = first_schema draft.nodes inputs
result_schema draft (Join name inputs classes) = columns_of draft.nodes inputs
result_schema draft (Group name input keys aggs) = group_schema (schema_of draft.nodes input) keys aggs
result_schema draft (Output name) = []
result_schema draft (Bad why) = []

-- ---- the operator

-- the pattern of a test
abbrev pub test_pattern : Test → Form
test_pattern (One pattern) = pattern
test_pattern Mixed = Wild

-- the pattern met with those that are stated for the column of this name, in order
abbrev pub met_with : Form → List ℕ → List TestWord → Form
met_with pattern name [] = pattern
met_with pattern name (word ∷ words) =
    if bytes_eq name word.column then met_with (meet_of pattern (test_pattern word.test)) name words else met_with pattern name words

-- what the tests ask of a column: what all patterns that are stated for it match
abbrev pub column_test : List TestWord → Column → Form
column_test words column = met_with Wild column.name words

-- the columns of an input, from this number on, that stand in the class
abbrev pub class_in : ℕ → ℕ → List Column → List (List ℕ) → List ClassCol
class_in input number [] words = []
class_in input number (column ∷ columns) words =
    if is_among words column.name
    then record { input = input; column = number } ∷ class_in input (number + 1) columns words
    else class_in input (number + 1) columns words

-- the columns of the inputs, from the input of this number on, that stand in the class
abbrev pub class_from : ℕ → List (List Column) → List (List ℕ) → List ClassCol
class_from input [] words = []
class_from input (schema ∷ schemas) words = class_in input 0 schema words ++ class_from (input + 1) schemas words

-- a class, its columns in order of the inputs
abbrev pub class_of : List (List Column) → List (List ℕ) → List ClassCol
class_of schemas words = class_from 0 schemas words

abbrev pub agg_of : List Column → AggWord → Agg
agg_of columns Count = CountAgg
agg_of columns (Sum column) = SumAgg (column_number columns column)
agg_of columns (Min column) = MinAgg (column_number columns column)
agg_of columns (Max column) = MaxAgg (column_number columns column)

abbrev pub named_agg : List Column → NamedAgg → Agg
named_agg columns word = agg_of columns word.agg

abbrev pub old_number : List Column → Renamed → ℕ
old_number columns word = column_number columns word.old

-- the join of these inputs by these classes
abbrev pub join_of : List PlanNode → List (List ℕ) → List (List (List ℕ)) → Node
join_of nodes inputs classes =
    JoinNode (map (number_of nodes) inputs) (record { inputs = map (schema_of nodes) inputs; classes = map (class_of (map (schema_of nodes) inputs)) classes })

-- the operator that is declared
abbrev pub operator_of : Draft → Statement → Node
operator_of draft (Plan version) = StreamNode []
operator_of draft (Stream name columns) = StreamNode []
operator_of draft (Scheme stream marks) = StreamNode []
operator_of draft (Select name input tests) = SelectNode (number_of draft.nodes input) (map (column_test tests) (schema_of draft.nodes input))
operator_of draft (Project name input columns) = ProjectNode (number_of draft.nodes input) (map (old_number (schema_of draft.nodes input)) columns)
operator_of draft (Union name inputs) = UnionNode (map (number_of draft.nodes) inputs)
operator_of draft (Join name inputs classes) = join_of draft.nodes inputs classes
operator_of draft (Group name input keys aggs) =
    GroupNode (number_of draft.nodes input) (record { keys = map (column_number (schema_of draft.nodes input)) keys; aggs = map (named_agg (schema_of draft.nodes input)) aggs })
operator_of draft (Output name) = StreamNode []
operator_of draft (Bad why) = StreamNode []

-- the node that is declared under this name
abbrev pub node_of : Draft → List ℕ → Statement → PlanNode
node_of draft name statement = record { name = name; schema = result_schema draft statement; node = operator_of draft statement }

-- ---- what is declared after a statement

-- a stream with one scheme more
abbrev pub more_schemes : Node → List Bool → Node
more_schemes (StreamNode schemes) marks = StreamNode (schemes ++ marks ∷ [])
more_schemes (SelectNode input test) marks = SelectNode input test
more_schemes (ProjectNode input columns) marks = ProjectNode input columns
more_schemes (UnionNode inputs) marks = UnionNode inputs
more_schemes (JoinNode inputs spec) marks = JoinNode inputs spec
more_schemes (GroupNode input spec) marks = GroupNode input spec

-- the nodes, the stream of this name with one scheme more
abbrev pub with_scheme : List ℕ → List Bool → List PlanNode → List PlanNode
with_scheme name marks [] = []
with_scheme name marks (node ∷ nodes) =
    if bytes_eq name node.name
    then record { name = node.name; schema = node.schema; node = more_schemes node.node marks } ∷ nodes
    else node ∷ with_scheme name marks nodes

-- the nodes, and the one of this name, where the statement declares one
abbrev pub declared : Draft → Option (List ℕ) → Statement → List PlanNode
declared draft None statement = draft.nodes
declared draft (Some name) statement = draft.nodes ++ node_of draft name statement ∷ []

-- the nodes, the stream with these marks, where the statement is a scheme of one
abbrev pub with_marks : Option (List ℕ) → List Bool → List PlanNode → List PlanNode
with_marks None marks nodes = nodes
with_marks (Some stream) marks nodes = with_scheme stream marks nodes

abbrev pub number_in : List PlanNode → Option (List ℕ) → Option ℕ
number_in nodes None = None
number_in nodes (Some name) = Some (number_of nodes name)

-- what is declared after the statement, which has no fault
abbrev pub after : Draft → Statement → Draft
after draft statement = record {
  version = option_or (plan_version statement) draft.version;
  nodes = with_marks (parts_of statement).stream (parts_of statement).marks (declared draft (new_name statement) statement);
  output = option_or (number_in draft.nodes (parts_of statement).output) draft.output;
}
