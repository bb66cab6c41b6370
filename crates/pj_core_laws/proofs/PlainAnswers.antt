-- The answer over the nodes that run, and their punctuations, are the plan's own.
use Rattle.std.proofs.Common.{ℕ, zero, suc, ◌+◌, ◌≤◌, Bool, true, false, cond, List, [], ◌∷◌, ◌++◌, ◌≡◌, Option, Some, length, map, get_or, refl, sym, ap, ap₂, ◌∙◌, append-nil, arith}
use Rattle.std.specs.Prelude.{drop, filter, flat_map, pred}
use Rattle.std.proofs.lemmas.Bool.{eq-eqb, false≢true, ne_eqb}
use Rattle.std.proofs.lemmas.Grind.{get_or_after_one}
use Rattle.std.proofs.lemmas.List.{length-append, length_push}
use Rattle.std.proofs.lemmas.List.Folds.{flat_map-map}
use Rattle.std.proofs.lemmas.Simd.{map-map}
use Rattle.pj_value.specs.declared.values.Value.{Value}
use Rattle.pj_shape.specs.declared.columns.Column.{Column}
use Rattle.pj_shape.specs.declared.joins.CertStep.{CertStep}
use Rattle.pj_pattern.specs.Columns.{matches_row, others_wild, widen_of, picked_patterns}
use Rattle.pj_plan.specs.declared.node.Node.{Node as Operation}
use Rattle.pj_plan.specs.declared.node.Node.TheVariants.{Stream as StreamNode, Select as SelectNode, Project as ProjectNode, Union as UnionNode, Join as JoinNode, Group as GroupNode}
use Rattle.pj_plan.specs.declared.node.PlanNode.{PlanNode}
use Rattle.pj_plan.specs.Canonical.{node_at}
use Rattle.pj_plan.specs.Nodes.{inputs_of, is_stream, numbers_from, streams_of}
use Rattle.pj_scheme.specs.Derived.{inputs_schemes, schemes_of}
use Rattle.pj_events.specs.Patterns.{Pattern}
use Rattle.pj_events.specs.Join.{JoinData, arities}
use Rattle.pj_events.specs.Operators.{group_rows, picked_cells}
use Rattle.pj_events.specs.Plan.{operator_answer, answers_from, nowhere, operator_at}
use Rattle.pj_events.specs.History.{streams_of as streams_among}
use Rattle.pj_events.specs.Outcomes.{answers_of as answers_over, list_at, place_in, counts}
use Rattle.pj_events.specs.Punctuations.{group_puncts, join_puncts, operator_puncts, project_puncts, puncts_answers as all_puncts_over, puncts_at, puncts_from}
use Rattle.pj_algebra.specs.Answers.{left_behind, list_of, node_puncts, node_rows, nodes_give, puncts_by_node, rows_by_node, widened, widened_from, is_counted}
use Rattle.pj_laws.specs.Reaching.{counted_in}
use Rattle.pj_core_laws.specs.Answers.{AnswersArePlain, CountsArePlain, PunctuationsArePlain, CountedArePlain}
use Rattle.pj_core.specs.Plans.{RunPlan, certs_behind, nodes_of, nodes_with, operator_of}
use Rattle.pj_join.specs.Joins.{join_data}
use Rattle.pj_core.proofs.Planned.{nodes-long}
use Rattle.pj_core.proofs.Streams.{streams-with}

-- ---- what arrives at the streams

-- each stream from this number on has the next of the lists
abbrev Arrive : {A : Type 0} → (ℕ → List A) → ℕ → List (List A) → List PlanNode → Type 0
Arrive came n lists [] = Unit {0}
Arrive came n lists (node ∷ nodes) = (is_stream node.node ≡ true → came n ≡ list_of lists 0) × Arrive came (n + 1) (left_behind node.node lists) nodes

-- a stream's list stands at its place among the streams
arrive-from : {A : Type 0} (came : ℕ → List A) (pick : Option ℕ → List A) (k n : ℕ) (lists : List (List A)) (nodes : List PlanNode)
    → ((m : ℕ) → n ≤ m → came m ≡ pick (place_in k (numbers_from is_stream n nodes) m)) → ((j : ℕ) → pick (Some (k + j)) ≡ list_of lists j) → Arrive came n lists nodes
arrive-from came pick k n lists [] placed left = tt
arrive-from {A} came pick k n lists (node ∷ nodes) placed left =
    go (is_stream node.node) placed (λ i lists' p l. arrive-from came pick i (n + 1) lists' nodes p l)
  where
    later : List ℕ
    later = numbers_from is_stream (n + 1) nodes

    here : pick (Some k) ≡ list_of lists 0
    here = let z : k ≡ k + 0 = omega arith in ap (λ (i : ℕ). pick (Some i)) z ∙ left 0

    go : (b : Bool) → ((m : ℕ) → n ≤ m → came m ≡ pick (place_in k (cond b (n ∷ later) later) m))
        → ((i : ℕ) (rest : List (List A)) → ((m : ℕ) → n + 1 ≤ m → came m ≡ pick (place_in i later m)) → ((j : ℕ) → pick (Some (i + j)) ≡ list_of rest j) → Arrive came (n + 1) rest nodes)
        → (b ≡ true → came n ≡ list_of lists 0) × Arrive came (n + 1) (cond b (drop 1 lists) lists) nodes
    go true p ih = (
      (λ t. p n (omega arith) ∙ ap (λ (b : Bool). pick (cond b (Some k) (place_in (k + 1) later n))) (eq-eqb n n refl) ∙ here),
      ih (k + 1) (drop 1 lists) (λ m le. p m (omega (arith, le)) ∙ ap (λ (b : Bool). pick (cond b (Some k) (place_in (k + 1) later m))) (ne_eqb n m (λ q. omega (arith, le, q))))
          (λ j. let z : k + 1 + j ≡ k + (1 + j) = omega arith in ap (λ (i : ℕ). pick (Some i)) z ∙ left (1 + j) ∙ sym (get_or_after_one lists j [])),
    )
    go false p ih = ((λ t. absurd (false≢true t)), ih k lists (λ m le. p m (omega (arith, le))) left)

-- ---- one node

one-list : {A : Type 0} (list : List A) → flat_map (λ (l : List A). l) (list ∷ []) ≡ list
one-list list = append-nil list

rows-same : (schemes : List (List (List Bool))) (certs : List (List CertStep)) (columns : List Column) (before : List (List (List Value))) (came arrived : List (List Value)) (operation : Operation)
    → (is_stream operation ≡ true → came ≡ arrived) → operator_answer (operator_of schemes certs columns operation) came (map (list_of before) (inputs_of operation)) ≡ node_rows before arrived operation
rows-same schemes certs columns before came arrived (StreamNode stated) same = same refl
rows-same schemes certs columns before came arrived (SelectNode input test) same = ap (filter (matches_row test)) (one-list (list_of before input))
rows-same schemes certs columns before came arrived (ProjectNode input kept) same = ap (map (picked_cells kept)) (one-list (list_of before input))
rows-same schemes certs columns before came arrived (UnionNode inputs) same = flat_map-map (λ (l : List (List Value)). l) (list_of before) inputs
rows-same schemes certs columns before came arrived (JoinNode inputs spec) same = refl
rows-same schemes certs columns before came arrived (GroupNode input spec) same = ap (group_rows spec) (one-list (list_of before input))

widened-same : (spec : JoinData) (k : ℕ) (lists : List (List (List Pattern))) → join_puncts spec k lists ≡ widened_from (arities spec) k lists
widened-same spec k [] = refl
widened-same spec k (list ∷ lists) = ap (λ (ps : List (List Pattern)). map (widened (arities spec) k) list ++ ps) (widened-same spec (k + 1) lists)

puncts-same : (schemes : List (List (List Bool))) (certs : List (List CertStep)) (columns : List Column) (before : List (List (List Pattern))) (came arrived : List (List Pattern)) (operation : Operation)
    → (is_stream operation ≡ true → came ≡ arrived) → operator_puncts (operator_of schemes certs columns operation) came (map (list_of before) (inputs_of operation)) ≡ node_puncts before arrived operation
puncts-same schemes certs columns before came arrived (StreamNode stated) same = same refl
puncts-same schemes certs columns before came arrived (SelectNode input test) same = one-list (list_of before input)
puncts-same schemes certs columns before came arrived (ProjectNode input kept) same = ap (project_puncts kept) (one-list (list_of before input))
puncts-same schemes certs columns before came arrived (UnionNode inputs) same = flat_map-map (λ (l : List (List Pattern)). l) (list_of before) inputs
puncts-same schemes certs columns before came arrived (JoinNode inputs spec) same = widened-same (join_data spec (inputs_schemes schemes inputs) certs) 0 (map (list_of before) inputs)
puncts-same schemes certs columns before came arrived (GroupNode input spec) same =
    ap (group_puncts spec) (one-list (list_of before input))
    ∙ sym (map-map (widen_of 0 (length spec.aggs)) (picked_patterns spec.keys) (filter (others_wild spec.keys 0) (list_of before input)))

-- ---- all nodes

rows-behind : (schemes : List (List (List Bool))) (certs : List (List (List CertStep))) (came : ℕ → List (List Value)) (n : ℕ) (before lists : List (List (List Value))) (nodes : List PlanNode)
    → length before ≡ n → Arrive came n lists nodes → answers_from came before (nodes_with schemes certs nodes) ≡ nodes_give node_rows before lists nodes
rows-behind schemes certs came n before lists [] long arrive = refl
rows-behind schemes certs came n before lists (node ∷ nodes) long arrive =
    ap (λ (rows : List (List Value)). answers_from came (before ++ rows ∷ []) (nodes_with schemes (certs_behind node certs) nodes))
    (rows-same schemes (get_or certs 0 []) node.schema before (came (length before)) (list_of lists 0) node.node (λ t. ap came long ∙ arrive.0 t))
    ∙ rows-behind schemes (certs_behind node certs) came (n + 1) (before ++ here ∷ []) (left_behind node.node lists) nodes (let more = length_push before here in omega (arith, more, long)) arrive.1
  where
    here : List (List Value)
    here = node_rows before (list_of lists 0) node.node

puncts-behind : (schemes : List (List (List Bool))) (certs : List (List (List CertStep))) (came : ℕ → List (List Pattern)) (n : ℕ) (before lists : List (List (List Pattern))) (nodes : List PlanNode)
    → length before ≡ n → Arrive came n lists nodes → puncts_from came before (nodes_with schemes certs nodes) ≡ nodes_give node_puncts before lists nodes
puncts-behind schemes certs came n before lists [] long arrive = refl
puncts-behind schemes certs came n before lists (node ∷ nodes) long arrive =
    ap (λ (puncts : List (List Pattern)). puncts_from came (before ++ puncts ∷ []) (nodes_with schemes (certs_behind node certs) nodes))
    (puncts-same schemes (get_or certs 0 []) node.schema before (came (length before)) (list_of lists 0) node.node (λ t. ap came long ∙ arrive.0 t))
    ∙ puncts-behind schemes (certs_behind node certs) came (n + 1) (before ++ here ∷ []) (left_behind node.node lists) nodes (let more = length_push before here in omega (arith, more, long)) arrive.1
  where
    here : List (List Pattern)
    here = node_puncts before (list_of lists 0) node.node

-- ---- the plan

pub same-streams : (plan : RunPlan) → streams_among (nodes_of plan) ≡ streams_of plan.nodes
same-streams plan = streams-with (schemes_of plan.nodes) plan.certs 0 plan.nodes

rows-plain : (plan : RunPlan) (lists : List (List (List Value))) → answers_over (nodes_of plan) lists ≡ rows_by_node plan.nodes lists
rows-plain plan lists =
    rows-behind (schemes_of plan.nodes) plan.certs (λ n. list_at lists (place_in 0 (streams_among (nodes_of plan)) n)) 0 [] lists plan.nodes refl
    (arrive-from (λ n. list_at lists (place_in 0 (streams_among (nodes_of plan)) n)) (list_at lists) 0 0 lists plan.nodes
    (λ m le. ap (λ (ns : List ℕ). list_at lists (place_in 0 ns m)) (same-streams plan))
    (λ j. let z : 0 + j ≡ j = omega arith in ap (list_of lists) z))

puncts-plain : (plan : RunPlan) (lists : List (List (List Pattern))) → all_puncts_over (nodes_of plan) lists ≡ puncts_by_node plan.nodes lists
puncts-plain plan lists =
    puncts-behind (schemes_of plan.nodes) plan.certs (λ n. puncts_at lists (place_in 0 (streams_among (nodes_of plan)) n)) 0 [] lists plan.nodes refl
    (arrive-from (λ n. puncts_at lists (place_in 0 (streams_among (nodes_of plan)) n)) (puncts_at lists) 0 0 lists plan.nodes
    (λ m le. ap (λ (ns : List ℕ). puncts_at lists (place_in 0 ns m)) (same-streams plan))
    (λ j. let z : 0 + j ≡ j = omega arith in ap (list_of lists) z))

pub answers-are-plain : (plan : RunPlan) (lists : List (List (List Value))) → AnswersArePlain plan lists
answers-are-plain plan lists = record {
  answer = ap₂ (λ (all : List (List (List Value))) (n : ℕ). list_of all (pred n)) (rows-plain plan lists) (nodes-long plan);
  nodes = rows-plain plan lists;
}

pub punctuations-are-plain : (plan : RunPlan) (lists : List (List (List Pattern))) → PunctuationsArePlain plan lists
punctuations-are-plain plan lists = record {
  output = ap₂ (λ (all : List (List (List Pattern))) (n : ℕ). list_of all (pred n)) (puncts-plain plan lists) (nodes-long plan);
  nodes = puncts-plain plan lists;
}

-- ---- what comes to a node

inputs-same : (schemes : List (List (List Bool))) (certs : List (List (List CertStep))) (nodes : List PlanNode) (n : ℕ) → (get_or (nodes_with schemes certs nodes) n nowhere).inputs ≡ inputs_of (node_at nodes n)
inputs-same schemes certs [] n = refl
inputs-same schemes certs (node ∷ nodes) zero = refl
inputs-same schemes certs (node ∷ nodes) (suc n) = inputs-same schemes (certs_behind node certs) nodes n

counted-same : (rows : List (List (List Value))) (puncts : List (List (List Pattern))) (ms : List ℕ) → counted_in rows puncts ms ≡ length (flat_map (list_of rows) ms) + length (flat_map (list_of puncts) ms)
counted-same rows puncts [] = refl
counted-same rows puncts (m ∷ ms) =
    let more = counted-same rows puncts ms in
    let r = length-append (list_of rows m) (flat_map (list_of rows) ms) in
    let p = length-append (list_of puncts m) (flat_map (list_of puncts) ms) in
    omega (arith, more, r, p)

pub counts-are-plain : (plan : RunPlan) (rows : List (List (List Value))) (puncts : List (List (List Pattern))) → CountsArePlain plan rows puncts
counts-are-plain plan rows puncts node =
    ap₂ (λ (rs : List (List (List Value))) (ps : List (List (List Pattern))). counted_in rs ps (get_or (nodes_of plan) node nowhere).inputs) (rows-plain plan rows) (puncts-plain plan puncts)
    ∙ ap (counted_in (rows_by_node plan.nodes rows) (puncts_by_node plan.nodes puncts)) (inputs-same (schemes_of plan.nodes) plan.certs plan.nodes node)
    ∙ counted-same (rows_by_node plan.nodes rows) (puncts_by_node plan.nodes puncts) (inputs_of (node_at plan.nodes node))

-- ---- which nodes count

one-counts : (schemes : List (List (List Bool))) (certs : List (List CertStep)) (columns : List Column) (operation : Operation) → counts (operator_of schemes certs columns operation) ≡ is_counted operation
one-counts schemes certs columns (StreamNode stated) = refl
one-counts schemes certs columns (SelectNode input test) = refl
one-counts schemes certs columns (ProjectNode input kept) = refl
one-counts schemes certs columns (UnionNode inputs) = refl
one-counts schemes certs columns (JoinNode inputs spec) = refl
one-counts schemes certs columns (GroupNode input spec) = refl

all-count : (schemes : List (List (List Bool))) (certs : List (List (List CertStep))) (nodes : List PlanNode) (n : ℕ) → counts (operator_at (nodes_with schemes certs nodes) n) ≡ is_counted (node_at nodes n)
all-count schemes certs [] n = refl
all-count schemes certs (node ∷ nodes) zero = one-counts schemes (get_or certs 0 []) node.schema node.node
all-count schemes certs (node ∷ nodes) (suc n) = all-count schemes (certs_behind node certs) nodes n

pub counted-are-plain : (plan : RunPlan) → CountedArePlain plan
counted-are-plain plan node = all-count (schemes_of plan.nodes) plan.certs plan.nodes node
