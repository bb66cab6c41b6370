-- Numbers that no node of a plan has.
use Rattle.std.proofs.Common.{◌≡◌, ◌≤◌, ℕ, zero, suc, List, [], ◌∷◌, length, slice_get, slice_index_or, refl, ap, sym, arith}
use Rattle.pj_plan.specs.declared.node.PlanNode.{PlanNode}
use Rattle.pj_plan.specs.Nodes.{inputs_of}
use Rattle.pj_plan.specs.Canonical.{no_node, node_name}
use Rattle.pj_report.specs.Results.{name_of, input_name}

none_past : (nodes : List PlanNode) (n : ℕ) → length nodes ≤ n → slice_index_or nodes n no_node ≡ no_node
none_past [] n past = refl
none_past (node ∷ nodes) zero past = absurd (omega (arith, past))
none_past (node ∷ nodes) (suc n) past = none_past nodes n (omega (arith, past))

pub past_names : (nodes : List PlanNode) (n : ℕ) → length nodes ≤ n → [] ≡ node_name nodes n
past_names nodes n past = sym (ap (λ (node : PlanNode). node.name) (none_past nodes n past))

pub past_inputs : (nodes : List PlanNode) (n input : ℕ) → length nodes ≤ n → input_name nodes n input ≡ []
past_inputs nodes n input past = ap (λ (node : PlanNode). name_of nodes (slice_get (inputs_of node.node) input)) (none_past nodes n past)
