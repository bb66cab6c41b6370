-- A stream with one scheme more, by its number.
use Rattle.std.proofs.Common.{ℕ, zero, suc, ◌≡◌, ◌<◌, ◌≤◌, Bool, true, false, List, [], ◌∷◌, length, if◌then◌else◌, get_or, slice_set, refl, sym, ap, arith}
use Rattle.std.specs.Str.{bytes_eq}
use Rattle.pj_plan.specs.declared.node.PlanNode.{PlanNode}
use Rattle.pj_plan.specs.Made.{number_of, with_scheme, more_schemes}

-- the node with one scheme more
abbrev pub scheme_added : PlanNode → List Bool → PlanNode
scheme_added node marks = record { name = node.name; schema = node.schema; node = more_schemes node.node marks }

pub scheme_none : (name : List ℕ) (marks : List Bool) (nodes : List PlanNode) → length nodes ≤ number_of nodes name → with_scheme name marks nodes ≡ nodes
scheme_none name marks [] beyond = refl
scheme_none name marks (node ∷ nodes) beyond = go (bytes_eq name node.name) beyond (scheme_none name marks nodes)
  where
    go : (b : Bool) → suc (length nodes) ≤ (if b then 0 else suc (number_of nodes name))
        → (length nodes ≤ number_of nodes name → with_scheme name marks nodes ≡ nodes)
        → (if b then scheme_added node marks ∷ nodes else node ∷ with_scheme name marks nodes) ≡ node ∷ nodes
    go true beyond rest = absurd (omega (arith, beyond))
    go false beyond rest = ap (λ (ns : List PlanNode). node ∷ ns) (rest (omega (arith, beyond)))

pub scheme_at : (name : List ℕ) (marks : List Bool) (nodes : List PlanNode) (at : ℕ) (node : PlanNode) → at ≡ number_of nodes name → at < length nodes
    → node ≡ get_or nodes at node → with_scheme name marks nodes ≡ slice_set nodes at (scheme_added node marks)
scheme_at name marks [] at node is within there = absurd (omega (arith, within))
scheme_at name marks (n ∷ ns) at node is within there = go (bytes_eq name n.name) at is within there (λ k e l t. scheme_at name marks ns k node e l t)
  where
    go : (b : Bool) (at : ℕ) → at ≡ (if b then 0 else suc (number_of ns name)) → at < suc (length ns) → node ≡ get_or (n ∷ ns) at node
        → ((k : ℕ) → k ≡ number_of ns name → k < length ns → node ≡ get_or ns k node → with_scheme name marks ns ≡ slice_set ns k (scheme_added node marks))
        → (if b then scheme_added n marks ∷ ns else n ∷ with_scheme name marks ns) ≡ slice_set (n ∷ ns) at (scheme_added node marks)
    go true zero is within there rest = ap (λ (m : PlanNode). scheme_added m marks ∷ ns) (sym there)
    go true (suc at) is within there rest = absurd (omega (arith, is))
    go false zero is within there rest = absurd (omega (arith, is))
    go false (suc at) is within there rest = ap (λ (ms : List PlanNode). n ∷ ms) (rest at (omega (arith, is)) (omega (arith, within)) there)
