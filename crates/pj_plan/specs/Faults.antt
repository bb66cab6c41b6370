-- The faults of a statement: for each, which statements have it behind what was declared before.
use Rattle.std.specs.Prelude.{ℕ, ◌+◌, Bool, true, false, not, ◌||◌, ◌&&◌, ◌==◌, List, [], ◌∷◌, ◌++◌, Option, Some, None, if◌then◌else◌, map, filter, flat_map, length, nat_le, nat_lt}
use Rattle.std.specs.List.{list_any}
use Rattle.std.specs.Str.{bytes_eq}
use Rattle.pj_value.specs.declared.values.Kind.{Kind}
use Rattle.pj_value.specs.declared.values.Kind.TheVariants.{Int, Text}
use Rattle.pj_value.specs.Lists.{has}
use Rattle.pj_shape.specs.declared.columns.Column.{Column}
use Rattle.pj_pattern.specs.Patterns.{is_of_kind}
use Rattle.pj_plan.specs.declared.fault.PlanWhy.{PlanWhy}
use Rattle.pj_plan.specs.declared.fault.PlanWhy.TheVariants.{NotAPlan, UnknownStatement, BadShape, NameTwice, UnknownName, UnknownColumn, ColumnTwice, KindsDiffer, BadClass, BadScheme, UsedTwiceOrNever, TooMany, Output as BehindOutput, Unreadable}
use Rattle.pj_plan.specs.declared.node.Node.{Node}
use Rattle.pj_plan.specs.declared.node.Node.TheVariants.{Stream as StreamNode, Select as SelectNode, Project as ProjectNode, Union as UnionNode, Join as JoinNode, Group as GroupNode}
use Rattle.pj_plan.specs.declared.node.PlanNode.{PlanNode}
use Rattle.pj_plan.specs.declared.node.Draft.{Draft}
use Rattle.pj_plan.specs.declared.statement.Statement.{Statement}
use Rattle.pj_plan.specs.declared.statement.TestWord.{TestWord}
use Rattle.pj_plan.specs.declared.statement.Test.{Test}
use Rattle.pj_plan.specs.declared.statement.Test.TheVariants.{One, Mixed}
use Rattle.pj_plan.specs.declared.statement.AggWord.{AggWord}
use Rattle.pj_plan.specs.declared.statement.AggWord.TheVariants.{Count, Sum, Min, Max}
use Rattle.pj_plan.specs.declared.statement.NamedAgg.{NamedAgg}
use Rattle.pj_plan.specs.Parts.{Parts, parts_of}
use Rattle.pj_plan.specs.Words.{plan_version, bad_why, new_name, used_names, scope_of, named_columns, is_among, repeats}
use Rattle.pj_plan.specs.Nodes.{inputs_of, is_stream}
use Rattle.pj_plan.specs.Made.{number_of, schema_of, first_schema, columns_of, column_kind, result_schema}

-- ---- what the line is

abbrev pub is_there : {A : Type 0} → Option A → Bool
is_there None = false
is_there (Some x) = true

abbrev pub is_one : Option ℕ → Bool
is_one None = false
is_one (Some version) = version == 1

-- not a plan: the first statement is not `plan 1`
abbrev pub is_not_a_plan : Draft → Statement → Bool
is_not_a_plan draft statement = not (is_there draft.version) && not (is_one (plan_version statement))

-- the line's first cell is no statement word
abbrev pub is_unknown_word : Option PlanWhy → Bool
is_unknown_word (Some UnknownStatement) = true
is_unknown_word _ = false

-- unknown statement: the first cell is no statement word; `plan` is one only in the first statement
abbrev pub is_unknown : Draft → Statement → Bool
is_unknown draft statement = (is_there draft.version && is_there (plan_version statement)) || is_unknown_word (bad_why statement)

-- the line's cells do not have the statement's form
abbrev pub is_bad_shape : Option PlanWhy → Bool
is_bad_shape (Some BadShape) = true
is_bad_shape _ = false

-- bad shape: the cells do not have the statement's form
abbrev pub is_misshapen : Statement → Bool
is_misshapen statement = is_bad_shape (bad_why statement)

-- the line is too long, unclosed, or has too many cells
abbrev pub is_bad_line : Option PlanWhy → Bool
is_bad_line (Some Unreadable) = true
is_bad_line _ = false

-- unreadable line
abbrev pub is_unreadable : Statement → Bool
is_unreadable statement = is_bad_line (bad_why statement)

-- ---- names

-- a node of this name is declared
abbrev pub is_known : List PlanNode → List ℕ → Bool
is_known nodes name = list_any (λ node. bytes_eq name node.name) nodes

abbrev pub is_unknown_name : List PlanNode → List ℕ → Bool
is_unknown_name nodes name = not (is_known nodes name)

-- a stream of this name is declared
abbrev pub is_stream_name : List PlanNode → List ℕ → Bool
is_stream_name nodes name = list_any (λ node. is_stream node.node && bytes_eq name node.name) nodes

abbrev pub is_taken : List PlanNode → Option (List ℕ) → Bool
is_taken nodes None = false
is_taken nodes (Some name) = is_known nodes name

-- name given twice: the new node's name is taken
abbrev pub takes_a_name : Draft → Statement → Bool
takes_a_name draft statement = is_taken draft.nodes (new_name statement)

-- no stream of these nodes has the name
abbrev pub is_no_stream : List PlanNode → Option (List ℕ) → Bool
is_no_stream nodes None = false
is_no_stream nodes (Some name) = not (is_stream_name nodes name)

-- a `scheme` for a name that is no stream declared before
abbrev pub has_no_stream : List PlanNode → Statement → Bool
has_no_stream nodes statement = is_no_stream nodes (parts_of statement).stream

-- unknown name: an input or output that is no node declared before; a `scheme` for a name that is no stream declared before
abbrev pub has_unknown_name : Draft → Statement → Bool
has_unknown_name draft statement = list_any (is_unknown_name draft.nodes) (used_names statement) || has_no_stream draft.nodes statement

-- ---- columns

-- one of these columns has the name
abbrev pub has_column : List Column → List ℕ → Bool
has_column columns name = list_any (λ column. bytes_eq name column.name) columns

abbrev pub has_no_column : List Column → List ℕ → Bool
has_no_column columns name = not (has_column columns name)

-- unknown column: a named column that is not a column of any of the inputs
abbrev pub has_unknown_column : Draft → Statement → Bool
has_unknown_column draft statement = list_any (has_no_column (columns_of draft.nodes (scope_of statement))) (named_columns statement)

-- two of these columns have one name
abbrev pub share_a_name : List Column → Bool
share_a_name [] = false
share_a_name (column ∷ columns) = has_column columns column.name || share_a_name columns

-- column name twice: two columns of the result have one name
abbrev pub has_column_twice : Draft → Statement → Bool
has_column_twice draft statement = share_a_name (result_schema draft statement)

-- ---- kinds

abbrev pub kind_eq : Kind → Kind → Bool
kind_eq Int Int = true
kind_eq Int Text = false
kind_eq Text Int = false
kind_eq Text Text = true

-- as many columns, and of the same kinds
abbrev pub are_alike : List Column → List Column → Bool
are_alike [] [] = true
are_alike [] (d ∷ ds) = false
are_alike (c ∷ cs) [] = false
are_alike (c ∷ cs) (d ∷ ds) = kind_eq c.kind d.kind && are_alike cs ds

abbrev pub is_unlike : List Column → List Column → Bool
is_unlike columns others = not (are_alike columns others)

-- the pattern has values of both kinds, or is of another kind than its column
abbrev pub misses_kind : Kind → Test → Bool
misses_kind kind (One pattern) = not (is_of_kind kind pattern)
misses_kind kind Mixed = true

abbrev pub misses_its_kind : List Column → TestWord → Bool
misses_its_kind columns word = misses_kind (column_kind columns word.column) word.test

-- the column of this name is of this kind
abbrev pub is_of : Kind → List Column → List ℕ → Bool
is_of kind columns name = kind_eq kind (column_kind columns name)

-- two kinds in a class
abbrev pub has_two_kinds : List Column → List (List ℕ) → Bool
has_two_kinds columns class = list_any (is_of Int columns) class && list_any (is_of Text columns) class

-- `sum` of a text column
abbrev pub sums_text : List Column → AggWord → Bool
sums_text columns Count = false
sums_text columns (Sum column) = is_of Text columns column
sums_text columns (Min column) = false
sums_text columns (Max column) = false

abbrev pub names_text_sum : List Column → NamedAgg → Bool
names_text_sum columns word = sums_text columns word.agg

-- inputs with another number of columns than the first or other kinds
abbrev pub are_unlike : List PlanNode → List (List ℕ) → Bool
are_unlike nodes inputs = list_any (is_unlike (first_schema nodes inputs)) (map (schema_of nodes) inputs)

-- a pattern of another kind than its column or of both, two kinds in a class, or a sum of a text column
abbrev pub misfits : List Column → Parts → Bool
misfits columns parts =
    list_any (misses_its_kind columns) parts.tests || (list_any (has_two_kinds columns) parts.classes || list_any (names_text_sum columns) parts.aggs)

-- kinds differ: inputs of a union that are not alike, or a misfit
abbrev pub has_kinds_that_differ : Draft → Statement → Bool
has_kinds_that_differ draft statement =
    ((parts_of statement).alike && are_unlike draft.nodes (used_names statement)) || misfits (columns_of draft.nodes (scope_of statement)) (parts_of statement)

-- ---- classes and schemes

-- two names of the class are of these columns
abbrev pub has_two_of : List (List ℕ) → List Column → Bool
has_two_of class columns = nat_lt 1 (length (filter (has_column columns) class))

-- two columns of one input in the class
abbrev pub has_one_input_twice : List (List Column) → List (List ℕ) → Bool
has_one_input_twice schemas class = list_any (has_two_of class) schemas

-- a column of the class is in the other too
abbrev pub meets : List (List ℕ) → List (List ℕ) → Bool
meets class other = list_any (is_among other) class

-- a column in two classes or twice in one
abbrev pub share_a_column : List (List (List ℕ)) → Bool
share_a_column [] = false
share_a_column (class ∷ classes) = (repeats class || list_any (meets class) classes) || share_a_column classes

-- bad class: two columns of one input in a class, or a column in two classes or twice in one
abbrev pub has_bad_class : Draft → Statement → Bool
has_bad_class draft statement =
    list_any (has_one_input_twice (map (schema_of draft.nodes) (used_names statement))) (parts_of statement).classes || share_a_column (parts_of statement).classes

-- a column is marked
abbrev pub is_marked : Bool → Bool
is_marked mark = mark

-- another number of marks than columns of the stream, or no mark
abbrev pub misses_marks : List PlanNode → Option (List ℕ) → List Bool → Bool
misses_marks nodes None marks = false
misses_marks nodes (Some stream) marks = not (length marks == length (schema_of nodes stream)) || not (list_any is_marked marks)

-- bad scheme: another number of marks than columns, or no mark
abbrev pub is_bad_scheme : Draft → Statement → Bool
is_bad_scheme draft statement = misses_marks draft.nodes (parts_of statement).stream (parts_of statement).marks

-- ---- uses

abbrev pub output_use : Option ℕ → List ℕ
output_use None = []
output_use (Some number) = number ∷ []

-- the numbers of the nodes that were used
abbrev pub uses : Draft → List ℕ
uses draft = flat_map (λ node. inputs_of node.node) draft.nodes ++ output_use draft.output

-- the node of this name was used
abbrev pub was_used : Draft → List ℕ → Bool
was_used draft name = has (uses draft) (number_of draft.nodes name)

-- one of so many nodes, from this number on, is not among these
abbrev pub has_unused : List ℕ → ℕ → List PlanNode → Bool
has_unused used number [] = false
has_unused used number (node ∷ nodes) = not (has used number) || has_unused used (number + 1) nodes

-- a node but the output was never used
abbrev pub leaves_some : Draft → Option (List ℕ) → Bool
leaves_some draft None = false
leaves_some draft (Some output) = has_unused (number_of draft.nodes output ∷ uses draft) 0 draft.nodes

-- at `output`, another node that was never used
abbrev pub leaves_unused : Draft → Statement → Bool
leaves_unused draft statement = leaves_some draft (parts_of statement).output

-- used twice or never: an input or output that was used before or stands twice in the statement; at `output`, another node
-- that was never used
abbrev pub is_used_twice_or_never : Draft → Statement → Bool
is_used_twice_or_never draft statement =
    (list_any (was_used draft) (used_names statement) || repeats (used_names statement)) || leaves_unused draft statement

-- ---- limits

-- the number of streams
abbrev pub stream_count : List PlanNode → ℕ
stream_count nodes = length (filter (λ node. is_stream node.node) nodes)

-- one node more is one too many, or its result has more than 120 columns
abbrev pub is_too_wide : Draft → Statement → Bool
is_too_wide draft statement = nat_le 64 (length draft.nodes) || nat_lt 120 (length (result_schema draft statement))

-- the number of schemes of the node of this name
abbrev pub schemes_of : Node → ℕ
schemes_of (StreamNode schemes) = length schemes
schemes_of (SelectNode input test) = 0
schemes_of (ProjectNode input columns) = 0
schemes_of (UnionNode inputs) = 0
schemes_of (JoinNode inputs spec) = 0
schemes_of (GroupNode input spec) = 0

abbrev pub scheme_count : List PlanNode → List ℕ → ℕ
scheme_count [] name = 0
scheme_count (node ∷ nodes) name = if bytes_eq name node.name then schemes_of node.node else scheme_count nodes name

-- the stream has as many schemes as it may have
abbrev pub is_full : List PlanNode → Option (List ℕ) → Bool
is_full nodes None = false
is_full nodes (Some stream) = nat_le 16 (scheme_count nodes stream)

-- too many: the statement goes beyond a limit: 16 streams, 16 inputs, 32 classes, 16 schemes of one stream, 64 nodes, 120 columns
abbrev pub is_too_many : Draft → Statement → Bool
is_too_many draft statement =
    ((parts_of statement).source && nat_le 16 (stream_count draft.nodes))
    || (nat_lt 16 (length (used_names statement)) || (nat_lt 32 (length (parts_of statement).classes)
    || (is_full draft.nodes (parts_of statement).stream || (is_there (new_name statement) && is_too_wide draft statement))))

-- ---- the output

-- output: a statement behind `output`, unless the line is a bad one
abbrev pub is_behind_output : Draft → Statement → Bool
is_behind_output draft statement = is_there draft.output && not (is_there (bad_why statement))

-- ---- the lowest fault

-- whether the statement has this fault
abbrev pub has_fault : Draft → Statement → PlanWhy → Bool
has_fault draft statement NotAPlan = is_not_a_plan draft statement
has_fault draft statement UnknownStatement = is_unknown draft statement
has_fault draft statement BadShape = is_misshapen statement
has_fault draft statement NameTwice = takes_a_name draft statement
has_fault draft statement UnknownName = has_unknown_name draft statement
has_fault draft statement UnknownColumn = has_unknown_column draft statement
has_fault draft statement ColumnTwice = has_column_twice draft statement
has_fault draft statement KindsDiffer = has_kinds_that_differ draft statement
has_fault draft statement BadClass = has_bad_class draft statement
has_fault draft statement BadScheme = is_bad_scheme draft statement
has_fault draft statement UsedTwiceOrNever = is_used_twice_or_never draft statement
has_fault draft statement TooMany = is_too_many draft statement
has_fault draft statement BehindOutput = is_behind_output draft statement
has_fault draft statement Unreadable = is_unreadable statement

-- the faults of the line, the names, the columns, and the uses and numbers
abbrev pub name_whys : List PlanWhy
name_whys = NotAPlan ∷ UnknownStatement ∷ BadShape ∷ NameTwice ∷ UnknownName ∷ []

abbrev pub column_whys : List PlanWhy
column_whys = UnknownColumn ∷ ColumnTwice ∷ KindsDiffer ∷ BadClass ∷ BadScheme ∷ []

abbrev pub use_whys : List PlanWhy
use_whys = UsedTwiceOrNever ∷ TooMany ∷ BehindOutput ∷ Unreadable ∷ []

-- all faults, the lowest first
abbrev pub all_whys : List PlanWhy
all_whys = name_whys ++ column_whys ++ use_whys

-- the first of these faults that the statement has
abbrev pub first_fault : Draft → Statement → List PlanWhy → Option PlanWhy
first_fault draft statement [] = None
first_fault draft statement (why ∷ whys) = if has_fault draft statement why then Some why else first_fault draft statement whys

-- the lowest fault of the statement, if it has one
abbrev pub fault_of : Draft → Statement → Option PlanWhy
fault_of draft statement = first_fault draft statement all_whys
