-- The numbers of the joins of a plan.
use Rattle.std.proofs.Common.{ℕ, zero, suc, ◌+◌, ◌<◌, ◌≡◌, length, arith, Bool, true, false, cond, List, [], ◌∷◌, refl, subst, inl, inr, zero-add}
use Rattle.pj_value.specs.Lists.{In}
use Rattle.pj_plan.specs.declared.node.Node.{Node}
use Rattle.pj_plan.specs.declared.node.PlanNode.{PlanNode}
use Rattle.pj_plan.specs.Canonical.{node_at}
use Rattle.pj_plan.specs.Nodes.{is_join, joins_of, numbers_from}
use Rattle.pj_scheme.specs.Derived.{schemes_of}
use Rattle.pj_safety.specs.Laws.{JoinsAreSafe, JudgedByNodes}
use Rattle.pj_safety.specs.Safety.{IsSafeNode}
use Rattle.pj_safety.proofs.Nodes.{join_safe, other_safe, safe_join}

-- a number of a node of the sort
record IsNumber (sort : Node → Bool) (start : ℕ) (nodes : List PlanNode) (k : ℕ) : Type 0 where
  place : ℕ
  number : k ≡ start + place
  there : place < length nodes
  is : sort (node_at nodes place) ≡ true

number_at : (sort : Node → Bool) (start : ℕ) (nodes : List PlanNode) (k : ℕ) → In k (numbers_from sort start nodes) → IsNumber sort start nodes k
number_at sort start [] k h = absurd h
number_at sort start (node ∷ nodes) k h = go (sort node.node) refl h (number_at sort (start + 1) nodes k)
  where
    more : IsNumber sort (start + 1) nodes k → IsNumber sort start (node ∷ nodes) k
    more r = record { place = suc r.place; number = let e = r.number in omega (arith, e); there = let lt = r.there in omega (arith, lt); is = r.is }

    go : (b : Bool) → sort node.node ≡ b → In k (cond b (start ∷ numbers_from sort (start + 1) nodes) (numbers_from sort (start + 1) nodes))
        → (In k (numbers_from sort (start + 1) nodes) → IsNumber sort (start + 1) nodes k) → IsNumber sort start (node ∷ nodes) k
    go true e (inl q) ih = record { place = 0; number = omega (arith, q); there = omega arith; is = e }
    go true e (inr i) ih = more (ih i)
    go false e i ih = more (ih i)

join_below : (nodes : List PlanNode) (join : ℕ) → In join (joins_of nodes) → join < length nodes
join_below nodes join h = let r = number_at is_join 0 nodes join h in let e = r.number in let lt = r.there in omega (arith, e, lt)

join_is : (nodes : List PlanNode) (join : ℕ) → In join (joins_of nodes) → is_join (node_at nodes join) ≡ true
join_is nodes join h =
    let r = number_at is_join 0 nodes join h in
    let e : r.place ≡ join = let n = r.number in omega (arith, n) in
    subst (λ (m : ℕ). is_join (node_at nodes m) ≡ true) e r.is

-- a node that is a join has its number among those of the joins
number_in : (k : ℕ) (nodes : List PlanNode) (n : ℕ) → n < length nodes → is_join (node_at nodes n) ≡ true → In (k + n) (numbers_from is_join k nodes)
number_in k [] n lt is = absurd (omega (arith, lt))
number_in k (node ∷ nodes) zero lt is = let same : k ≡ k + 0 = omega arith in rw is (inl same)
number_in k (node ∷ nodes) (suc n) lt is =
    let same : k + 1 + n ≡ k + suc n = omega arith in
    go (is_join node.node) (subst (λ (m : ℕ). In m (numbers_from is_join (k + 1) nodes)) same (number_in (k + 1) nodes n (omega (arith, lt)) is))
  where
    others : List ℕ
    others = numbers_from is_join (k + 1) nodes

    go : (b : Bool) → In (k + suc n) others → In (k + suc n) (cond b (k ∷ others) others)
    go true h = inr h
    go false h = h

listed : (nodes : List PlanNode) (n : ℕ) → n < length nodes → is_join (node_at nodes n) ≡ true → In n (joins_of nodes)
listed nodes n lt is = subst (λ (m : ℕ). In m (joins_of nodes)) (zero-add n) (number_in 0 nodes n lt is)

-- all nodes are safe exactly where all joins are
pub judged_by_nodes : JudgedByNodes
judged_by_nodes nodes = (
  λ safe join h. safe_join (schemes_of nodes) (node_at nodes join) (join_is nodes join h) (safe join (join_below nodes join h)),
  λ safe n lt. go n lt safe (is_join (node_at nodes n)) refl,
)
  where
    go : (n : ℕ) → n < length nodes → JoinsAreSafe nodes → (b : Bool) → is_join (node_at nodes n) ≡ b → IsSafeNode nodes n
    go n lt safe true e = join_safe (schemes_of nodes) (node_at nodes n) e (safe n (listed nodes n lt e))
    go n lt safe false e = other_safe (schemes_of nodes) (node_at nodes n) e
