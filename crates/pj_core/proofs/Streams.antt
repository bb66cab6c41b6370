-- The streams of a plan by their numbers.
use Rattle.std.proofs.Common.{ℕ, zero, suc, ◌+◌, ◌<◌, ◌≤◌, Bool, true, false, cond, List, [], ◌∷◌, ◌≡◌, length, get_or, refl, ap, ap₂, ◌∙◌, arith}
use Rattle.std.proofs.lemmas.List.{get_or_default}
use Rattle.pj_shape.specs.declared.columns.Column.{Column}
use Rattle.pj_shape.specs.declared.joins.CertStep.{CertStep}
use Rattle.pj_plan.specs.declared.node.Node.{Node as Operation}
use Rattle.pj_plan.specs.declared.node.Node.TheVariants.{Stream as StreamNode, Select as SelectNode, Project as ProjectNode, Union as UnionNode, Join as JoinNode, Group as GroupNode}
use Rattle.pj_plan.specs.declared.node.PlanNode.{PlanNode}
use Rattle.pj_plan.specs.Nodes.{is_stream, numbers_from, streams_of, stream_columns, streams_in}
use Rattle.pj_plan.specs.Canonical.{no_node, node_schema}
use Rattle.pj_pattern.specs.Patterns.{Pattern}
use Rattle.pj_pattern.specs.declared.element.Element.TheVariants.{Punct}
use Rattle.pj_events.specs.Patterns.{all_wild}
use Rattle.pj_core.specs.Parts.{closing_in, plan_node}
use Rattle.pj_scheme.specs.Derived.{schemes_of}
use Rattle.pj_events.specs.declared.events.Entry.{Entry}
use Rattle.pj_events.specs.Plan.{Node}
use Rattle.pj_events.specs.History.{is_stream as is_stream_in, nodes_by, nodes_from, stream_node, streams_from, streams_of as streams_among}
use Rattle.pj_laws.proofs.Steps.{streams-same}
use Rattle.pj_core.specs.Plans.{RunPlan, certs_behind, nodes_of, nodes_with, operator_of}

-- the stream of this number stands at a place, and its columns are those of the node there
record IsAt (n : ℕ) (nodes streams : List PlanNode) (numbers : List ℕ) (k : ℕ) : Type 0 where
  place : ℕ
  number : get_or numbers k 0 ≡ n + place
  there : place < length nodes
  sort : is_stream (get_or nodes place no_node).node ≡ true
  columns : node_schema nodes place ≡ stream_columns streams k

is-at : (n : ℕ) (nodes : List PlanNode) (k : ℕ) → k < length (numbers_from is_stream n nodes) → IsAt n nodes (streams_in nodes) (numbers_from is_stream n nodes) k
is-at n [] k lt = absurd (omega (arith, lt))
is-at n (node ∷ nodes) k lt = go (is_stream node.node) refl k lt (λ m less. is-at (n + 1) nodes m less)
  where
    others : List ℕ
    others = numbers_from is_stream (n + 1) nodes

    go : (b : Bool) → is_stream node.node ≡ b → (m : ℕ) → m < length (cond b (n ∷ others) others) → ((l : ℕ) → l < length others → IsAt (n + 1) nodes (streams_in nodes) others l)
        → IsAt n (node ∷ nodes) (cond b (node ∷ streams_in nodes) (streams_in nodes)) (cond b (n ∷ others) others) m
    go true q zero less ih = record { place = 0; number = (let e : n ≡ n + 0 = omega arith in e); there = omega arith; sort = q; columns = refl }
    go true q (suc m) less ih = let a = ih m (omega (arith, less)) in
        let e = a.number in let l = a.there in
        record { place = suc a.place; number = omega (arith, e); there = omega (arith, l); sort = a.sort; columns = a.columns }
    go false q m less ih = let a = ih m less in
        let e = a.number in let l = a.there in
        record { place = suc a.place; number = omega (arith, e); there = omega (arith, l); sort = a.sort; columns = a.columns }

at-zero : (nodes : List PlanNode) (k : ℕ) → (a : IsAt 0 nodes (streams_in nodes) (streams_of nodes) k) → get_or (streams_of nodes) k 0 ≡ a.place
at-zero nodes k a = let e = a.number in omega (arith, e)

pub number_below : (nodes : List PlanNode) (k : ℕ) → k < length (streams_of nodes) → get_or (streams_of nodes) k 0 < length nodes
number_below nodes k lt = let a = is-at 0 nodes k lt in let e = a.number in let b = a.there in omega (arith, e, b)

pub columns_there : (nodes : List PlanNode) (k : ℕ) → k < length (streams_of nodes) → node_schema nodes (get_or (streams_of nodes) k 0) ≡ stream_columns (streams_in nodes) k
columns_there nodes k lt = let a = is-at 0 nodes k lt in ap (node_schema nodes) (at-zero nodes k a) ∙ a.columns

pub stream-there : (nodes : List PlanNode) (k : ℕ) → k < length (streams_of nodes) → is_stream (plan_node nodes (get_or (streams_of nodes) k 0)).node ≡ true
stream-there nodes k lt = let a = is-at 0 nodes k lt in ap (λ (n : ℕ). is_stream (plan_node nodes n).node) (at-zero nodes k a) ∙ a.sort

-- ---- as histories number them

sort-same : (schemes : List (List (List Bool))) (certs : List (List CertStep)) (columns : List Column) (operation : Operation) → is_stream_in (operator_of schemes certs columns operation) ≡ is_stream operation
sort-same schemes certs columns (StreamNode stated) = refl
sort-same schemes certs columns (SelectNode input test) = refl
sort-same schemes certs columns (ProjectNode input kept) = refl
sort-same schemes certs columns (UnionNode inputs) = refl
sort-same schemes certs columns (JoinNode inputs spec) = refl
sort-same schemes certs columns (GroupNode input spec) = refl

pub streams-with : (schemes : List (List (List Bool))) (certs : List (List (List CertStep))) (k : ℕ) (nodes : List PlanNode) → streams_from k (nodes_with schemes certs nodes) ≡ numbers_from is_stream k nodes
streams-with schemes certs k [] = refl
streams-with schemes certs k (node ∷ nodes) =
    ap₂ (λ (b : Bool) (ns : List ℕ). cond b (k ∷ ns) ns) (sort-same schemes (get_or certs 0 []) node.schema node.node) (streams-with schemes (certs_behind node certs) (k + 1) nodes)

streams-after : (nodes : List Node) (history : List Entry) → streams_among (nodes_from nodes history) ≡ streams_among nodes
streams-after nodes [] = refl
streams-after nodes (entry ∷ history) = streams-after (nodes_by nodes entry.event) history ∙ streams-same nodes entry.event

-- the node of a stream after a history
pub stream-number : (plan : RunPlan) (history : List Entry) (k : ℕ) → k < length (streams_of plan.nodes) → stream_node (nodes_from (nodes_of plan) history) k ≡ get_or (streams_of plan.nodes) k 0
stream-number plan history k lt =
    ap (λ (ns : List ℕ). get_or ns k (length (nodes_from (nodes_of plan) history))) (streams-after (nodes_of plan) history ∙ streams-with (schemes_of plan.nodes) plan.certs 0 plan.nodes)
    ∙ get_or_default (streams_of plan.nodes) k (length (nodes_from (nodes_of plan) history)) 0 lt

-- the punctuation that closes a stream
pub closing-is : (nodes : List PlanNode) (k n : ℕ) (punct : List Pattern) (columns : List Column) → k < length (streams_of nodes) → n ≡ get_or (streams_of nodes) k 0 → punct ≡ all_wild (length columns) → columns ≡ node_schema nodes n
    → Punct punct ≡ closing_in nodes k
closing-is nodes k n punct columns lt at is of =
    ap Punct (is ∙ ap (λ (cs : List Column). all_wild (length cs)) (of ∙ ap (node_schema nodes) at ∙ columns_there nodes k lt))

pub streams-few : (k : ℕ) (nodes : List PlanNode) → length (numbers_from is_stream k nodes) ≤ length nodes
streams-few k [] = omega arith
streams-few k (node ∷ nodes) = go (is_stream node.node) (streams-few (k + 1) nodes)
  where
    go : (b : Bool) → length (numbers_from is_stream (k + 1) nodes) ≤ length nodes → length (cond b (k ∷ numbers_from is_stream (k + 1) nodes) (numbers_from is_stream (k + 1) nodes)) ≤ suc (length nodes)
    go true l = omega (arith, l)
    go false l = omega (arith, l)
