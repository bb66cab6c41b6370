-- The streams of a plan among its nodes, by their numbers.
use Rattle.std.proofs.Common.{ℕ, zero, suc, ◌+◌, ◌≤◌, ◌<◌, Bool, true, false, cond, List, [], ◌∷◌, ◌≡◌, length, get_or, refl, ap, ◌∙◌, zero-add, arith}
use Rattle.pj_shape.specs.declared.columns.Column.{Column}
use Rattle.pj_plan.specs.declared.node.PlanNode.{PlanNode}
use Rattle.pj_plan.specs.Nodes.{is_stream, numbers_from, streams_of, streams_in}
use Rattle.pj_plan.specs.Canonical.{no_node, node_name, node_schema}
use Rattle.pj_plan.specs.Sound.{IsSoundPlan}

-- ---- numbers

counted : (n : ℕ) (nodes : List PlanNode) → length (numbers_from is_stream n nodes) ≡ length (streams_in nodes)
counted n [] = refl
counted n (node ∷ nodes) = go (is_stream node.node) (counted (n + 1) nodes)
  where
    go : (b : Bool) → length (numbers_from is_stream (n + 1) nodes) ≡ length (streams_in nodes)
        → length (cond b (n ∷ numbers_from is_stream (n + 1) nodes) (numbers_from is_stream (n + 1) nodes)) ≡ length (cond b (node ∷ streams_in nodes) (streams_in nodes))
    go true e = ap suc e
    go false e = e

pub count_numbers : (nodes : List PlanNode) → length (streams_of nodes) ≡ length (streams_in nodes)
count_numbers nodes = counted 0 nodes

-- no more streams than nodes
few_from : (n : ℕ) (nodes : List PlanNode) → length (numbers_from is_stream n nodes) ≤ length nodes
few_from n [] = omega arith
few_from n (node ∷ nodes) = go (is_stream node.node) (few_from (n + 1) nodes)
  where
    go : (b : Bool) → length (numbers_from is_stream (n + 1) nodes) ≤ length nodes
        → length (cond b (n ∷ numbers_from is_stream (n + 1) nodes) (numbers_from is_stream (n + 1) nodes)) ≤ suc (length nodes)
    go true le = omega (arith, le)
    go false le = omega (arith, le)

pub few-streams : (nodes : List PlanNode) → IsSoundPlan nodes → length (streams_in nodes) ≤ 64
few-streams nodes sound =
    let le = few_from 0 nodes in
    let count = count_numbers nodes in
    let few = sound.few in omega (arith, le, count, few)

-- ---- places

-- a stream of this number stands at a place, and is the node there
pub record IsStreamAt (n : ℕ) (nodes : List PlanNode) (number : ℕ) (node : PlanNode) : Type 0 where
  pub place : ℕ
  pub at : number ≡ n + place
  pub there : place < length nodes
  pub is : get_or nodes place no_node ≡ node
  pub stream : is_stream node.node ≡ true

stream-from : (n : ℕ) (nodes : List PlanNode) (k d : ℕ) → k < length (streams_in nodes) → IsStreamAt n nodes (get_or (numbers_from is_stream n nodes) k d) (get_or (streams_in nodes) k no_node)
stream-from n [] k d lt = absurd (omega (arith, lt))
stream-from n (node ∷ nodes) k d lt = go (is_stream node.node) refl k lt (λ m less. stream-from (n + 1) nodes m d less)
  where
    others : List ℕ
    others = numbers_from is_stream (n + 1) nodes

    further : (number : ℕ) (x : PlanNode) → IsStreamAt (n + 1) nodes number x → IsStreamAt n (node ∷ nodes) number x
    further number x a =
        let at = a.at in
        let there = a.there in
        record { place = suc a.place; at = omega (arith, at); there = omega (arith, there); is = a.is; stream = a.stream }

    go : (b : Bool) → is_stream node.node ≡ b → (m : ℕ) → m < length (cond b (node ∷ streams_in nodes) (streams_in nodes))
        → ((l : ℕ) → l < length (streams_in nodes) → IsStreamAt (n + 1) nodes (get_or others l d) (get_or (streams_in nodes) l no_node))
        → IsStreamAt n (node ∷ nodes) (get_or (cond b (n ∷ others) others) m d) (get_or (cond b (node ∷ streams_in nodes) (streams_in nodes)) m no_node)
    go true q zero less ih = record { place = 0; at = (let e : n ≡ n + 0 = omega arith in e); there = omega arith; is = refl; stream = q }
    go true q (suc m) less ih = further (get_or others m d) (get_or (streams_in nodes) m no_node) (ih m (omega (arith, less)))
    go false q m less ih = further (get_or others m d) (get_or (streams_in nodes) m no_node) (ih m less)

-- the stream of a number is the node at its place
pub stream-at : (nodes : List PlanNode) (k d : ℕ) → k < length (streams_in nodes) → IsStreamAt 0 nodes (get_or (streams_of nodes) k d) (get_or (streams_in nodes) k no_node)
stream-at nodes k d lt = stream-from 0 nodes k d lt

pub number-below : (nodes : List PlanNode) (k d : ℕ) → k < length (streams_in nodes) → get_or (streams_of nodes) k d < length nodes
number-below nodes k d lt =
    let a = stream-at nodes k d lt in
    let at = a.at in
    let there = a.there in omega (arith, at, there)

pub node-at : (nodes : List PlanNode) (k d : ℕ) → k < length (streams_in nodes) → get_or nodes (get_or (streams_of nodes) k d) no_node ≡ get_or (streams_in nodes) k no_node
node-at nodes k d lt =
    let a = stream-at nodes k d lt in
    ap (λ (n : ℕ). get_or nodes n no_node) (a.at ∙ zero-add a.place) ∙ a.is

pub name-at : (nodes : List PlanNode) (k d : ℕ) → k < length (streams_in nodes) → node_name nodes (get_or (streams_of nodes) k d) ≡ (get_or (streams_in nodes) k no_node).name
name-at nodes k d lt = ap (λ (x : PlanNode). x.name) (node-at nodes k d lt)

pub schema-at : (nodes : List PlanNode) (k d : ℕ) → k < length (streams_in nodes) → node_schema nodes (get_or (streams_of nodes) k d) ≡ (get_or (streams_in nodes) k no_node).schema
schema-at nodes k d lt = ap (λ (x : PlanNode). x.schema) (node-at nodes k d lt)

-- ---- what a walk over the numbers of the streams meets

pub node-met : (nodes : List PlanNode) (numbers : List ℕ) (k number : ℕ) → numbers ≡ streams_of nodes → k < length numbers → number ≡ get_or numbers k 0 → number < length nodes
node-met nodes numbers k number are lt is =
    let count = ap length are ∙ count_numbers nodes in
    let below = number-below nodes k 0 (omega (arith, count, lt)) in
    let here = is ∙ ap (λ (ns : List ℕ). get_or ns k 0) are in omega (arith, below, here)

pub name-met : (nodes : List PlanNode) (numbers : List ℕ) (k number : ℕ) (name : List ℕ) → numbers ≡ streams_of nodes → k < length numbers → number ≡ get_or numbers k 0 → name ≡ node_name nodes number
    → name ≡ (get_or (streams_in nodes) k no_node).name
name-met nodes numbers k number name are lt is named =
    let count = ap length are ∙ count_numbers nodes in
    named ∙ (ap (node_name nodes) (is ∙ ap (λ (ns : List ℕ). get_or ns k 0) are) ∙ name-at nodes k 0 (omega (arith, count, lt)))

pub schema-met : (nodes : List PlanNode) (numbers : List ℕ) (k number : ℕ) (schema : List Column) → numbers ≡ streams_of nodes → k < length numbers → number ≡ get_or numbers k 0 → schema ≡ node_schema nodes number
    → schema ≡ (get_or (streams_in nodes) k no_node).schema
schema-met nodes numbers k number schema are lt is has =
    let count = ap length are ∙ count_numbers nodes in
    has ∙ (ap (node_schema nodes) (is ∙ ap (λ (ns : List ℕ). get_or ns k 0) are) ∙ schema-at nodes k 0 (omega (arith, count, lt)))

pub met-there : (nodes : List PlanNode) (numbers : List ℕ) (k : ℕ) → numbers ≡ streams_of nodes → k < length numbers → k < length (streams_in nodes)
met-there nodes numbers k are lt = let count = ap length are ∙ count_numbers nodes in omega (arith, count, lt)
