-- The canonical statements of a plan.
use Rattle.std.specs.Prelude.{ℕ, ◌+◌, List, [], ◌∷◌, ◌++◌, if◌then◌else◌, map, flat_map, drop, length, slice_index_or}
use Rattle.pj_value.specs.declared.values.Kind.TheVariants.{Int}
use Rattle.pj_shape.specs.declared.columns.Column.{Column}
use Rattle.pj_shape.specs.declared.joins.ClassCol.{ClassCol}
use Rattle.pj_shape.specs.declared.groups.Agg.{Agg}
use Rattle.pj_shape.specs.declared.groups.Agg.TheVariants.{Count as CountAgg, Sum as SumAgg, Min as MinAgg, Max as MaxAgg}
use Rattle.pj_pattern.specs.declared.pattern.Form.{Form}
use Rattle.pj_pattern.specs.Patterns.{is_wild}
use Rattle.pj_plan.specs.declared.node.Node.{Node}
use Rattle.pj_plan.specs.declared.node.Node.TheVariants.{Stream as StreamNode, Select as SelectNode, Project as ProjectNode, Union as UnionNode, Join as JoinNode, Group as GroupNode}
use Rattle.pj_plan.specs.declared.node.PlanNode.{PlanNode}
use Rattle.pj_plan.specs.declared.node.Outline.{Outline}
use Rattle.pj_plan.specs.declared.statement.Statement.{Statement}
use Rattle.pj_plan.specs.declared.statement.Statement.TheVariants.{Plan, Stream, Scheme, Select, Project, Union, Join, Group, Output}
use Rattle.pj_plan.specs.declared.statement.Stated.{Stated}
use Rattle.pj_plan.specs.declared.statement.ColumnWord.{ColumnWord}
use Rattle.pj_plan.specs.declared.statement.Renamed.{Renamed}
use Rattle.pj_plan.specs.declared.statement.TestWord.{TestWord}
use Rattle.pj_plan.specs.declared.statement.Test.TheVariants.{One}
use Rattle.pj_plan.specs.declared.statement.AggWord.{AggWord}
use Rattle.pj_plan.specs.declared.statement.AggWord.TheVariants.{Count, Sum, Min, Max}
use Rattle.pj_plan.specs.declared.statement.NamedAgg.{NamedAgg}

-- ---- names by their numbers

-- stands for a column where there is none
abbrev pub no_column : Column
no_column = record { name = []; kind = Int }

abbrev pub column_name : List Column → ℕ → List ℕ
column_name columns number = (slice_index_or columns number no_column).name

-- stands for a node where there is none
abbrev pub no_node : PlanNode
no_node = record { name = []; schema = []; node = StreamNode [] }

abbrev pub node_name : List PlanNode → ℕ → List ℕ
node_name nodes number = (slice_index_or nodes number no_node).name

abbrev pub node_schema : List PlanNode → ℕ → List Column
node_schema nodes number = (slice_index_or nodes number no_node).schema

abbrev pub node_at : List PlanNode → ℕ → Node
node_at nodes number = (slice_index_or nodes number no_node).node

-- ---- words

abbrev pub column_word : Column → ColumnWord
column_word column = record { name = column.name; kind = column.kind }

-- a pair for each column whose pattern is no wildcard
abbrev pub tests_from : List Column → List Form → List TestWord
tests_from [] patterns = []
tests_from (column ∷ columns) [] = []
tests_from (column ∷ columns) (pattern ∷ patterns) =
    if is_wild pattern then tests_from columns patterns else record { column = column.name; test = One pattern } ∷ tests_from columns patterns

-- the first column with its pattern
abbrev pub first_test : List Column → List Form → List TestWord
first_test (column ∷ columns) (pattern ∷ patterns) = record { column = column.name; test = One pattern } ∷ []
first_test _ _ = []

abbrev pub or_first : List TestWord → List TestWord → List TestWord
or_first [] first = first
or_first (test ∷ tests) first = test ∷ tests

-- where there is no such pair, the first column with `*`
abbrev pub tests_of : List Column → List Form → List TestWord
tests_of columns patterns = or_first (tests_from columns patterns) (first_test columns patterns)

-- the columns of an input, under the names that they have in the result
abbrev pub renamed_of : List Column → List Column → List ℕ → List Renamed
renamed_of [] columns numbers = []
renamed_of (new ∷ news) columns [] = []
renamed_of (new ∷ news) columns (number ∷ numbers) = record { new = new.name; old = column_name columns number } ∷ renamed_of news columns numbers

abbrev pub class_word : List (List Column) → ClassCol → List ℕ
class_word schemas at = column_name (slice_index_or schemas at.input []) at.column

abbrev pub class_words : List (List Column) → List ClassCol → List (List ℕ)
class_words schemas class = map (class_word schemas) class

abbrev pub agg_word : List Column → Agg → AggWord
agg_word columns CountAgg = Count
agg_word columns (SumAgg column) = Sum (column_name columns column)
agg_word columns (MinAgg column) = Min (column_name columns column)
agg_word columns (MaxAgg column) = Max (column_name columns column)

-- the aggregates, under the names of these columns of the result
abbrev pub aggs_of : List Column → List Column → List Agg → List NamedAgg
aggs_of [] columns aggs = []
aggs_of (new ∷ news) columns [] = []
aggs_of (new ∷ news) columns (agg ∷ aggs) = record { name = new.name; agg = agg_word columns agg } ∷ aggs_of news columns aggs

-- ---- statements

-- the statement that declares the node, over all nodes of the plan
abbrev pub declaration : List PlanNode → PlanNode → Node → Statement
declaration nodes node (StreamNode schemes) = Stream node.name (map column_word node.schema)
declaration nodes node (SelectNode input test) = Select node.name (node_name nodes input) (tests_of node.schema test)
declaration nodes node (ProjectNode input columns) =
    Project node.name (node_name nodes input) (renamed_of node.schema (node_schema nodes input) columns)
declaration nodes node (UnionNode inputs) = Union node.name (map (node_name nodes) inputs)
declaration nodes node (JoinNode inputs spec) = Join node.name (map (node_name nodes) inputs) (map (class_words spec.inputs) spec.classes)
declaration nodes node (GroupNode input spec) =
    Group node.name (node_name nodes input) (map (column_name (node_schema nodes input)) spec.keys)
    (aggs_of (drop (length spec.keys) node.schema) (node_schema nodes input) spec.aggs)

-- the statements of its schemes
abbrev pub scheme_statements : List ℕ → Node → List Statement
scheme_statements name (StreamNode schemes) = map (Scheme name) schemes
scheme_statements name (SelectNode input test) = []
scheme_statements name (ProjectNode input columns) = []
scheme_statements name (UnionNode inputs) = []
scheme_statements name (JoinNode inputs spec) = []
scheme_statements name (GroupNode input spec) = []

abbrev pub node_statements : List PlanNode → PlanNode → List Statement
node_statements nodes node = declaration nodes node node.node ∷ scheme_statements node.name node.node

-- the name of the last of these nodes
abbrev pub last_name : List PlanNode → List ℕ
last_name [] = []
last_name (node ∷ []) = node.name
last_name (node ∷ other ∷ nodes) = last_name (other ∷ nodes)

-- the canonical statements: `plan`, each node's statement in order, each stream followed by its schemes, and `output`
abbrev pub statements_of : Outline → List Statement
statements_of plan = Plan plan.version ∷ flat_map (node_statements plan.nodes) plan.nodes ++ Output (last_name plan.nodes) ∷ []

-- each on a line of its own, from this line on
abbrev pub lines_from : ℕ → List Statement → List Stated
lines_from line [] = []
lines_from line (statement ∷ statements) = record { line = line; what = statement } ∷ lines_from (line + 1) statements
