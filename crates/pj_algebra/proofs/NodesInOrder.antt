-- The rows of the nodes of a plan, one node after another.
use Rattle.std.proofs.Common.{ℕ, suc, ◌+◌, ◌<◌, pred, List, [], ◌∷◌, ◌++◌, ◌≡◌, length, drop, get_or, drop-cons, sym, ap, ap₂, ◌∙◌, arith}
use Rattle.pj_value.specs.declared.values.Value.{Value}
use Rattle.pj_plan.specs.declared.node.Node.{Node}
use Rattle.pj_plan.specs.declared.node.PlanNode.{PlanNode}
use Rattle.pj_plan.specs.Canonical.{no_node, node_at}
use Rattle.pj_algebra.specs.Answers.{answer_of, left_behind, list_of, node_rows, nodes_give, rows_by_node}

pub one_node : (nodes : List PlanNode) (n : ℕ) (node : Node) (before new left behind : List (List (List Value))) (rows : List (List Value)) (whole : List (List (List Value))) → n < length nodes → node ≡ node_at nodes n
    → rows ≡ node_rows before (list_of left 0) node → new ≡ before ++ rows ∷ [] → behind ≡ left_behind node left
    → nodes_give node_rows before left (drop n nodes) ≡ whole → nodes_give node_rows new behind (drop (n + 1) nodes) ≡ whole
one_node nodes n node before new left behind rows whole lt is r e l h =
    let rest = drop (n + 1) nodes in
    let given : rows ≡ node_rows before (list_of left 0) (node_at nodes n) = r ∙ ap (node_rows before (list_of left 0)) is in
    let more : suc n ≡ n + 1 = omega arith in
    let next : drop n nodes ≡ get_or nodes n no_node ∷ rest = drop-cons nodes n no_node lt ∙ ap (λ (m : ℕ). get_or nodes n no_node ∷ drop m nodes) more in
    ap₂ (λ (b k : List (List (List Value))). nodes_give node_rows b k rest) (e ∙ ap (λ (rs : List (List Value)). before ++ rs ∷ []) given) (l ∙ ap (λ (m : Node). left_behind m left) is)
    ∙ (ap (nodes_give node_rows before left) (sym next) ∙ h)

pub last_node : (nodes : List PlanNode) (lists made : List (List (List Value))) (root : ℕ) → made ≡ rows_by_node nodes lists → root + 1 ≡ length nodes → list_of made root ≡ answer_of nodes lists
last_node nodes lists made root m r =
    let last : root ≡ pred (length nodes) = omega (arith, r) in
    ap₂ (λ (rows : List (List (List Value))) (k : ℕ). list_of rows k) m last
