-- The punctuations that a plan hands out of those that arrived at its streams.
use Rattle.std.specs.Prelude.{ℕ, ◌+◌, List, [], ◌∷◌, ◌++◌, map, filter, flat_map, length, slice_index_or, Option, Some, None}
use Rattle.pj_pattern.specs.Columns.{others_wild, picked_patterns}
use Rattle.pj_events.specs.Patterns.{Pattern, all_wild}
use Rattle.pj_events.specs.Join.{JoinData, widened, upto_from, puncts_of}
use Rattle.pj_events.specs.Operators.{GroupSpec}
use Rattle.pj_events.specs.Plan.{Operator, Stream, Select, Project, Union, Join, Group, Node}
use Rattle.pj_events.specs.History.{Entry, streams_of, root_of}
use Rattle.pj_events.specs.Outcomes.{elements_of, place_in}

-- ---- one operator

-- a punctuation of an input of a join, with wildcards for the columns of the other inputs
abbrev pub widened_at : JoinData → ℕ → List Pattern → List Pattern
widened_at spec input patterns = widened spec (record { ticket = 0; input = input; patterns = patterns })

-- those of the inputs of a join from this one on, each widened
abbrev pub join_puncts : JoinData → ℕ → List (List (List Pattern)) → List (List Pattern)
join_puncts spec input [] = []
join_puncts spec input (list ∷ lists) = map (widened_at spec input) list ++ join_puncts spec (input + 1) lists

-- those that are a wildcard in each column that is dropped, cut to the columns that are kept
abbrev pub project_puncts : List ℕ → List (List Pattern) → List (List Pattern)
project_puncts columns list = map (picked_patterns columns) (filter (others_wild columns 0) list)

-- the patterns of the group columns, with wildcards for the aggregates
abbrev pub group_punct : GroupSpec → List Pattern → List Pattern
group_punct spec patterns = picked_patterns spec.keys patterns ++ all_wild (length spec.aggs)

-- those that are a wildcard in each column that is no group column, cut to the group columns and widened over the aggregates
abbrev pub group_puncts : GroupSpec → List (List Pattern) → List (List Pattern)
group_puncts spec list = map (group_punct spec) (filter (others_wild spec.keys 0) list)

-- the punctuations of an operator over those of its inputs, or of a stream over those that arrived at it
abbrev pub operator_puncts : Operator → List (List Pattern) → List (List (List Pattern)) → List (List Pattern)
operator_puncts (Stream schema sent) arrived lists = arrived
operator_puncts (Select test) arrived lists = flat_map (λ l. l) lists
operator_puncts (Project columns) arrived lists = project_puncts columns (flat_map (λ l. l) lists)
operator_puncts (Union n u) arrived lists = flat_map (λ l. l) lists
operator_puncts (Join spec s) arrived lists = join_puncts spec 0 lists
operator_puncts (Group spec rows) arrived lists = group_puncts spec (flat_map (λ l. l) lists)

-- ---- a plan, node by node

-- the lists of a node's inputs
abbrev pub puncts_in : Node → List (List (List Pattern)) → List (List (List Pattern))
puncts_in node done = map (λ m. slice_index_or done m []) node.inputs

-- the punctuations of all nodes behind these, where these arrived at the streams, by numbers of nodes
abbrev pub puncts_from : (ℕ → List (List Pattern)) → List (List (List Pattern)) → List Node → List (List (List Pattern))
puncts_from streams done [] = done
puncts_from streams done (node ∷ nodes) =
    puncts_from streams (done ++ operator_puncts node.operator (streams (length done)) (puncts_in node done) ∷ []) nodes

-- the list at this place
abbrev pub puncts_at : List (List (List Pattern)) → Option ℕ → List (List Pattern)
puncts_at lists None = []
puncts_at lists (Some k) = slice_index_or lists k []

-- the punctuations of all nodes of a plan, where these lists arrived at its streams, in their order
abbrev pub puncts_answers : List Node → List (List (List Pattern)) → List (List (List Pattern))
puncts_answers plan lists = puncts_from (λ n. puncts_at lists (place_in 0 (streams_of plan) n)) [] plan

-- the punctuations that a plan hands out, where these lists arrived at its streams, the closings among them
abbrev pub puncts_answer : List Node → List (List (List Pattern)) → List (List Pattern)
puncts_answer plan lists = slice_index_or (puncts_answers plan lists) (root_of plan) []

-- the lists of punctuations that arrived at the streams
abbrev pub puncts_lists : List Node → List Entry → List (List (List Pattern))
puncts_lists plan history = map (λ stream. puncts_of (elements_of stream history)) (upto_from 0 (length (streams_of plan)))
