-- What the making of a node asks of a statement without fault, and of the nodes before it.
use Rattle.std.proofs.Common.{ℕ, ◌≡◌, ◌≤◌, Bool, true, false, if◌then◌else◌, List, [], ◌∷◌, None, length, nat_lt, arith, suc, ◌<◌}
use Rattle.std.specs.Str.{bytes_eq}
use Rattle.std.proofs.lemmas.Bool.{or_parts, ltb-false}
use Rattle.pj_plan.specs.declared.node.PlanNode.{PlanNode}
use Rattle.pj_plan.specs.declared.node.Draft.{Draft}
use Rattle.pj_plan.specs.declared.statement.Statement.{Statement}
use Rattle.pj_plan.specs.Words.{used_names}
use Rattle.pj_plan.specs.Made.{schema_of}
use Rattle.pj_plan.specs.Canonical.{node_schema}
use Rattle.pj_plan.specs.Small.{AreSmall}
use Rattle.pj_plan.specs.Faults.{fault_of, has_kinds_that_differ}
use Rattle.pj_plan.proofs.NoFaults.{has_none}
use Rattle.pj_plan.proofs.Drafts.{IsSoundDraft}

-- a statement without fault uses at most 16 nodes
pub few_used : (draft : Draft) (statement : Statement) → fault_of draft statement ≡ None → length (used_names statement) ≤ 16
few_used draft statement e = ltb-false 16 (length (used_names statement)) (or_parts (nat_lt 16 (length (used_names statement))) _ (or_parts _ _ (has_none draft statement e).few).1).0

-- its kinds fit
pub kinds_fit : (draft : Draft) (statement : Statement) → fault_of draft statement ≡ None → has_kinds_that_differ draft statement ≡ false
kinds_fit draft statement e = (has_none draft statement e).kinds

few_columns : (nodes : List PlanNode) → ((n : ℕ) → n < length nodes → length (node_schema nodes n) ≤ 120) → (name : List ℕ) → length (schema_of nodes name) ≤ 120
few_columns [] each name = omega arith
few_columns (node ∷ nodes) each name =
    go (bytes_eq name node.name) (each 0 (omega arith)) (few_columns nodes (λ n lt. each (suc n) (omega (arith, lt))) name)
  where
    go : (b : Bool) → length node.schema ≤ 120 → length (schema_of nodes name) ≤ 120
        → length (if b then node.schema else schema_of nodes name) ≤ 120
    go true few rest = few
    go false few rest = rest

-- what is soundly declared is small
pub sound_small : (draft : Draft) → IsSoundDraft draft → AreSmall draft.nodes
sound_small draft sound = record { few = sound.few; narrow = few_columns draft.nodes (λ n lt. (sound.each n lt).schema.few) }
