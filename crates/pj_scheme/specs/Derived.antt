-- The punctuation schemes of the nodes of a plan, derived from those that its streams state.
use Rattle.std.specs.Prelude.{ℕ, ◌+◌, Bool, true, false, not, ◌&&◌, ◌||◌, ◌==◌, List, [], ◌∷◌, ◌++◌, map, filter, flat_map, length, replicate, sum, slice_index_or}
use Rattle.std.specs.List.{list_all, list_any}
use Rattle.pj_shape.specs.declared.columns.Column.{Column}
use Rattle.pj_shape.specs.Sound.{arities_of}
use Rattle.pj_plan.specs.declared.node.Node.{Node}
use Rattle.pj_plan.specs.declared.node.Node.TheVariants.{Stream, Select, Project, Union, Join, Group}
use Rattle.pj_plan.specs.declared.node.PlanNode.{PlanNode}
use Rattle.pj_value.specs.Lists.{has}

-- ---- marks

-- whether the column is marked; a column that is not there is not
abbrev pub mark_at : List Bool → ℕ → Bool
mark_at scheme column = slice_index_or scheme column false

-- whether each marked column passes the test, counted from this column on
abbrev pub each_marked : (ℕ → Bool) → ℕ → List Bool → Bool
each_marked test column [] = true
each_marked test column (mark ∷ marks) = (not mark || test column) && each_marked test (column + 1) marks

-- each column that is marked in the one is marked in the other
abbrev pub marks_among : List Bool → List Bool → Bool
marks_among marks others = each_marked (mark_at others) 0 marks

-- each marked column of the scheme is one of these
abbrev pub are_kept : List ℕ → List Bool → Bool
are_kept columns scheme = each_marked (has columns) 0 scheme

-- the marks at these columns, in their order
abbrev pub cut : List ℕ → List Bool → List Bool
cut columns scheme = map (mark_at scheme) columns

-- so many columns that are not marked
abbrev pub unmarked : ℕ → List Bool
unmarked count = replicate count false

-- so many unmarked columns in front, and behind
abbrev pub widened : ℕ → ℕ → List Bool → List Bool
widened before after scheme = unmarked before ++ scheme ++ unmarked after

-- ---- one node, where these are the schemes of the nodes before it

-- the schemes of the node of this number
abbrev pub schemes_at : List (List (List Bool)) → ℕ → List (List Bool)
schemes_at done number = slice_index_or done number []

-- those of these nodes, in their order
abbrev pub inputs_schemes : List (List (List Bool)) → List ℕ → List (List (List Bool))
inputs_schemes done inputs = map (schemes_at done) inputs

-- those whose marked columns are all kept, cut to the kept columns
abbrev pub projected : List ℕ → List (List Bool) → List (List Bool)
projected columns schemes = map (cut columns) (filter (are_kept columns) schemes)

-- one of these schemes has its marks among those of the scheme
abbrev pub has_among : List (List Bool) → List Bool → Bool
has_among schemes scheme = list_any (λ theirs. marks_among theirs scheme) schemes

-- each of these inputs other than the one has a scheme whose marks are among those of the scheme
abbrev pub others_have : List (List (List Bool)) → List ℕ → ℕ → List Bool → Bool
others_have done inputs input scheme = list_all (λ other. (other == input) || has_among (schemes_at done other) scheme) inputs

-- each scheme of an input for which every other input has one whose marks are among its marks
abbrev pub united : List (List (List Bool)) → List ℕ → List (List Bool)
united done inputs = flat_map (λ input. filter (others_have done inputs input) (schemes_at done input)) inputs

-- the schemes of inputs of these columns, behind so many columns, each widened by the columns of the inputs before and behind
abbrev pub joined : ℕ → List (List Column) → List (List (List Bool)) → List (List Bool)
joined before [] lists = []
joined before (schema ∷ schemas) [] = []
joined before (schema ∷ schemas) (list ∷ lists) =
    map (widened before (sum (arities_of schemas))) list ++ joined (before + length schema) schemas lists

-- the schemes of a node: those that a stream states; those of a select's input; those of a project's input whose marked
-- columns are all kept, cut; a union's; those of a join's inputs, widened; those of a group's input whose marked columns are
-- all keys, cut to the keys and widened over the aggregates
abbrev pub node_schemes : List (List (List Bool)) → Node → List (List Bool)
node_schemes done (Stream schemes) = schemes
node_schemes done (Select input test) = schemes_at done input
node_schemes done (Project input columns) = projected columns (schemes_at done input)
node_schemes done (Union inputs) = united done inputs
node_schemes done (Join inputs spec) = joined 0 spec.inputs (inputs_schemes done inputs)
node_schemes done (Group input spec) = map (widened 0 (length spec.aggs)) (projected spec.keys (schemes_at done input))

-- ---- all nodes

-- the schemes of these nodes in order, behind those of the nodes before them
abbrev pub derived_from : List (List (List Bool)) → List PlanNode → List (List (List Bool))
derived_from done [] = done
derived_from done (node ∷ nodes) = derived_from (done ++ node_schemes done node.node ∷ []) nodes

-- the schemes of each node of a plan
abbrev pub schemes_of : List PlanNode → List (List (List Bool))
schemes_of nodes = derived_from [] nodes
