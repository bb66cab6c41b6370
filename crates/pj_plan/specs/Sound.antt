-- What a sound plan is.
use Rattle.std.specs.Prelude.{ℕ, ◌+◌, ◌≡◌, ◌<◌, ◌≤◌, Bool, true, List, [], ◌∷◌, ◌++◌, Some, None, map, flat_map, length, take, slice_get, slice_index_or}
use Rattle.pj_value.specs.Lists.{In}
use Rattle.pj_value.specs.declared.values.Kind.TheVariants.{Int}
use Rattle.pj_value.specs.Values.{Domain}
use Rattle.pj_shape.specs.declared.columns.Column.{Column}
use Rattle.pj_shape.specs.declared.groups.Agg.{Agg}
use Rattle.pj_shape.specs.declared.groups.Agg.TheVariants.{Count, Sum, Min, Max}
use Rattle.pj_shape.specs.declared.groups.GroupSpec.{GroupSpec}
use Rattle.pj_shape.specs.Columns.{domain_of, domains_of}
use Rattle.pj_shape.specs.Sound.{IsSoundSpec}
use Rattle.pj_pattern.specs.Fitting.{punct_fits}
use Rattle.pj_plan.specs.declared.node.Node.{Node}
use Rattle.pj_plan.specs.declared.node.Node.TheVariants.{Stream, Select, Project, Union, Join, Group}
use Rattle.pj_plan.specs.declared.node.PlanNode.{PlanNode}
use Rattle.pj_plan.specs.Nodes.{inputs_of, parent_of}
use Rattle.pj_plan.specs.Canonical.{no_column, node_at, node_schema}
use Rattle.pj_plan.specs.Faults.{stream_count}

-- no item stands in the list again
abbrev pub AreDistinct : {A : Type 0} → List A → Type 0
AreDistinct [] = Unit {0}
AreDistinct (x ∷ xs) = (¬ In x xs) × AreDistinct xs

-- the name of a column
abbrev pub name_of : Column → List ℕ
name_of column = column.name

-- 1 to 120 columns of different names
pub record IsSoundSchema (schema : List Column) : Type 0 where
  pub some : 1 ≤ length schema
  pub few : length schema ≤ 120
  pub names : AreDistinct (map name_of schema)

-- ---- operators

-- a mark for each column, and a column is marked
abbrev pub IsSoundScheme : List Column → List Bool → Type 0
IsSoundScheme schema scheme = (length scheme ≡ length schema) × In true scheme

-- what fits the column of this number
abbrev pub domain_at : List Column → ℕ → Domain
domain_at columns number = domain_of (slice_index_or columns number no_column)

-- the column of the aggregate is there, and that of a sum is of kind int
abbrev pub IsSoundAgg : List Column → Agg → Type 0
IsSoundAgg columns Count = Unit {0}
IsSoundAgg columns (Sum column) = (column < length columns) × (domain_at columns column ≡ Int)
IsSoundAgg columns (Min column) = column < length columns
IsSoundAgg columns (Max column) = column < length columns

-- one or more group columns, all there and different, and one or more sound aggregates
pub record IsSoundGroup (columns : List Column) (spec : GroupSpec) : Type 0 where
  pub some_keys : 1 ≤ length spec.keys
  pub some_aggs : 1 ≤ length spec.aggs
  pub keys_there : (key : ℕ) → In key spec.keys → key < length columns
  pub keys_apart : AreDistinct spec.keys
  pub sound_aggs : (agg : Agg) → In agg spec.aggs → IsSoundAgg columns agg

-- which values an aggregate has
abbrev pub agg_domain_at : List Column → Agg → Domain
agg_domain_at columns Count = Int
agg_domain_at columns (Sum column) = Int
agg_domain_at columns (Min column) = domain_at columns column
agg_domain_at columns (Max column) = domain_at columns column

-- what fits the group columns, and behind them the aggregates
abbrev pub group_domains : List Column → GroupSpec → List Domain
group_domains columns spec = map (domain_at columns) spec.keys ++ map (agg_domain_at columns) spec.aggs

-- the column of this number
abbrev pub column_at : List Column → ℕ → Column
column_at columns number = slice_index_or columns number no_column

-- the columns of the first of these nodes
abbrev pub columns_of_first : List PlanNode → List ℕ → List Column
columns_of_first nodes [] = []
columns_of_first nodes (input ∷ inputs) = node_schema nodes input

-- the operator suits its inputs, which are nodes among these, and the columns of its result
abbrev pub IsSoundOperator : List PlanNode → List Column → Node → Type 0
IsSoundOperator nodes schema (Stream schemes) = (length schemes ≤ 16) × ((scheme : List Bool) → In scheme schemes → IsSoundScheme schema scheme)
IsSoundOperator nodes schema (Select input test) = (schema ≡ node_schema nodes input) × (punct_fits (domains_of schema) test ≡ true)
IsSoundOperator nodes schema (Project input columns) =
    ((column : ℕ) → In column columns → column < length (node_schema nodes input)) × (domains_of schema ≡ map (domain_at (node_schema nodes input)) columns)
IsSoundOperator nodes schema (Union inputs) =
    (2 ≤ length inputs) × (length inputs ≤ 16) × (schema ≡ columns_of_first nodes inputs)
    × ((input : ℕ) → In input inputs → domains_of (node_schema nodes input) ≡ domains_of schema)
IsSoundOperator nodes schema (Join inputs spec) =
    IsSoundSpec spec × (spec.inputs ≡ map (node_schema nodes) inputs) × (schema ≡ flat_map (node_schema nodes) inputs)
IsSoundOperator nodes schema (Group input spec) =
    IsSoundGroup (node_schema nodes input) spec × (take (length spec.keys) schema ≡ map (column_at (node_schema nodes input)) spec.keys)
    × (domains_of schema ≡ group_domains (node_schema nodes input) spec)

-- ---- nodes

-- the node of number n has sound columns, only nodes before it feed it, and its operator is sound
pub record IsSoundNode (nodes : List PlanNode) (n : ℕ) : Type 0 where
  pub schema : IsSoundSchema (node_schema nodes n)
  pub before : (m : ℕ) → In m (inputs_of (node_at nodes n)) → m < n
  pub operator : IsSoundOperator nodes (node_schema nodes n) (node_at nodes n)

-- the inputs of all nodes
abbrev pub all_inputs : List PlanNode → List ℕ
all_inputs nodes = flat_map (λ node. inputs_of node.node) nodes

-- the node of number n feeds a node behind it, where its parent says
abbrev pub HasParent : List PlanNode → ℕ → Type 0
HasParent nodes n =
    (m : ℕ) × (position : ℕ) × (parent_of nodes n ≡ Some (m, position))
    × (n < m) × (m < length nodes) × (slice_get (inputs_of (node_at nodes m)) position ≡ Some n)

-- the name of a node
abbrev pub name_of_node : PlanNode → List ℕ
name_of_node node = node.name

-- 1 to 64 nodes of different names, at most 16 of them streams, each sound; none feeds twice; each but the last feeds another, and the last none
pub record IsSoundPlan (nodes : List PlanNode) : Type 0 where
  pub some : 1 ≤ length nodes
  pub few : length nodes ≤ 64
  pub few_streams : stream_count nodes ≤ 16
  pub names : AreDistinct (map name_of_node nodes)
  pub each : (n : ℕ) → n < length nodes → IsSoundNode nodes n
  pub once : AreDistinct (all_inputs nodes)
  pub led : (n : ℕ) → n + 1 < length nodes → HasParent nodes n
  pub last : (n : ℕ) → n + 1 ≡ length nodes → parent_of nodes n ≡ None
