-- The loops that look at the patterns of a plan.
use Rattle.std.proofs.Common.{◌≡◌, ℕ, ◌+◌, ◌<◌, ◌≤◌, List, length, sym, subst, inl, inr, arith}
use Rattle.std.proofs.lemmas.Bool.{cases_order}
use Rattle.pj_plan.specs.declared.node.Node.{Node}
use Rattle.pj_plan.specs.declared.node.PlanNode.{PlanNode}
use Rattle.pj_plan.specs.Canonical.{node_at}
use Rattle.pj_plan_text.specs.Kept.{AreKeptNodes, IsKeptNode}

-- the operators of the first i nodes are kept
abbrev pub NodesKept : List PlanNode → ℕ → Type 0
NodesKept nodes i = (n : ℕ) → n < i → IsKeptNode (node_at nodes n)

pub nodes_none : (nodes : List PlanNode) → NodesKept nodes 0
nodes_none nodes = λ n lt. absurd (omega (arith, lt))

pub nodes_more : (nodes : List PlanNode) (i : ℕ) (node : Node) → NodesKept nodes i → node ≡ node_at nodes i → IsKeptNode node → NodesKept nodes (i + 1)
nodes_more nodes i node before is kept = λ n lt. elim (cases_order n i) [ inl same ↦ at n same | inr (inl below) ↦ before n below | inr (inr above) ↦ absurd (omega (arith, lt, above)) ]
  where
    at : (n : ℕ) → n ≡ i → IsKeptNode (node_at nodes n)
    at n same = subst (λ (m : ℕ). IsKeptNode (node_at nodes m)) (sym same) (subst IsKeptNode is kept)

pub nodes_end : (nodes : List PlanNode) (i : ℕ) → NodesKept nodes i → length nodes ≤ i → AreKeptNodes nodes
nodes_end nodes i before le = λ n lt. before n (omega (arith, lt, le))
