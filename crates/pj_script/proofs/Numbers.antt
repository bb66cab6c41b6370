-- The numbers of the streams and joins of a plan.
use Rattle.std.proofs.Common.{◌≡◌, ℕ, zero, suc, ◌+◌, ◌^◌, ◌≤◌, ◌<◌, Bool, true, false, cond, List, [], ◌∷◌, length, get_or, refl, ap, subst, arith}
use Rattle.pj_plan.specs.declared.node.Node.{Node}
use Rattle.pj_plan.specs.declared.node.PlanNode.{PlanNode}
use Rattle.pj_plan.specs.Nodes.{inputs_of, is_join, joins_of, numbers_from}
use Rattle.pj_plan.specs.Canonical.{no_node, node_at}
use Rattle.pj_plan.specs.Sound.{IsSoundPlan}
use Rattle.pj_plan.proofs.Fed.{few_inputs}
use Rattle.pj_script.specs.Reading.{IsJoin}

-- ---- nodes of a sort

pub few_of_sort : (sort : Node → Bool) (n : ℕ) (nodes : List PlanNode) → length (numbers_from sort n nodes) ≤ length nodes
few_of_sort sort n [] = omega arith
few_of_sort sort n (node ∷ nodes) = go (sort node.node) (few_of_sort sort (n + 1) nodes)
  where
    go : (b : Bool) → length (numbers_from sort (n + 1) nodes) ≤ length nodes
        → length (cond b (n ∷ numbers_from sort (n + 1) nodes) (numbers_from sort (n + 1) nodes)) ≤ suc (length nodes)
    go true few = omega (arith, few)
    go false few = omega (arith, few)

-- the number is that of a node of the sort, where the first of the nodes has this one
record IsOfSort (sort : Node → Bool) (n : ℕ) (nodes : List PlanNode) (number : ℕ) : Type 0 where
  place : ℕ
  is : number ≡ n + place
  there : place < length nodes
  of_sort : sort (node_at nodes place) ≡ true

later : (sort : Node → Bool) (n : ℕ) (node : PlanNode) (nodes : List PlanNode) (number : ℕ) → IsOfSort sort (n + 1) nodes number → IsOfSort sort n (node ∷ nodes) number
later sort n node nodes number of = record { place = suc of.place; is = omega (arith, of.is); there = omega (arith, of.there); of_sort = of.of_sort }

numbered : (sort : Node → Bool) (n : ℕ) (nodes : List PlanNode) (k : ℕ) → k < length (numbers_from sort n nodes) → IsOfSort sort n nodes (get_or (numbers_from sort n nodes) k 0)
numbered sort n [] k lt = absurd (omega (arith, lt))
numbered sort n (node ∷ nodes) k lt = go (sort node.node) refl (numbered sort (n + 1) nodes) k lt
  where
    others : List ℕ
    others = numbers_from sort (n + 1) nodes

    go : (b : Bool) → sort node.node ≡ b → ((j : ℕ) → j < length (numbers_from sort (n + 1) nodes) → IsOfSort sort (n + 1) nodes (get_or (numbers_from sort (n + 1) nodes) j 0))
        → (j : ℕ) → j < length (cond b (n ∷ numbers_from sort (n + 1) nodes) (numbers_from sort (n + 1) nodes))
        → IsOfSort sort n (node ∷ nodes) (get_or (cond b (n ∷ numbers_from sort (n + 1) nodes) (numbers_from sort (n + 1) nodes)) j 0)
    go true is behind zero lt = record { place = 0; is = omega arith; there = omega arith; of_sort = is }
    go true is behind (suc j) lt = later sort n node nodes (get_or (numbers_from sort (n + 1) nodes) j 0) (behind j (omega (arith, lt)))
    go false is behind j lt = later sort n node nodes (get_or (numbers_from sort (n + 1) nodes) j 0) (behind j lt)

-- the number at a place among those of the joins is that of a join
pub joins_are : (nodes : List PlanNode) (joins : List ℕ) (place : ℕ) → joins ≡ joins_of nodes → place < length joins → IsJoin nodes (get_or joins place 0)
joins_are nodes joins place are lt =
    let of = numbered is_join 0 nodes place (omega (arith, lt, ap length are)) in
    let same : of.place ≡ get_or joins place 0 = omega (arith, of.is, ap (λ (ns : List ℕ). get_or ns place 0) are) in
    subst (λ (n : ℕ). IsJoin nodes n) same (record { there = of.there; joins = of.of_sort })

pub few_at : (nodes : List PlanNode) (number : ℕ) → IsSoundPlan nodes → number < length nodes → length (inputs_of (node_at nodes number)) ≤ 16
few_at nodes number sound lt = few_inputs nodes sound number no_node lt
