-- A loop over the numbers of the nodes, for one that is not among those that are needed.
use Rattle.std.proofs.Common.{ℕ, ◌≡◌, ◌+◌, ◌<◌, Bool, true, false, not, ◌||◌, List, length, drop, ap, ◌∙◌}
use Rattle.std.proofs.lemmas.List.{drop_more}
use Rattle.pj_plan.specs.declared.node.PlanNode.{PlanNode}
use Rattle.pj_plan.specs.Canonical.{no_node}
use Rattle.pj_plan.specs.Faults.{has_unused}
use Rattle.pj_value.specs.Lists.{has}

unused-from : (used : List ℕ) (n : ℕ) (nodes : List PlanNode) → n < length nodes
    → has_unused used n (drop n nodes) ≡ (not (has used n) || has_unused used (n + 1) (drop (n + 1) nodes))
unused-from used n nodes lt = ap (has_unused used n) (drop_more nodes n no_node lt)

pub unused_on : (used : List ℕ) (n : ℕ) (nodes : List PlanNode) → n < length nodes → has used n ≡ true
    → has_unused used n (drop n nodes) ≡ has_unused used (n + 1) (drop (n + 1) nodes)
unused_on used n nodes lt is = unused-from used n nodes lt ∙ ap (λ (b : Bool). not b || has_unused used (n + 1) (drop (n + 1) nodes)) is

pub unused_found : (used : List ℕ) (n : ℕ) (nodes : List PlanNode) → n < length nodes → has used n ≡ false
    → has_unused used n (drop n nodes) ≡ true
unused_found used n nodes lt is = unused-from used n nodes lt ∙ ap (λ (b : Bool). not b || has_unused used (n + 1) (drop (n + 1) nodes)) is
