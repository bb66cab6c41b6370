-- Loops over marks, schemes and nodes, one turn at a time.
use Rattle.std.proofs.Common.{ℕ, zero, suc, ◌+◌, ◌<◌, ◌≤◌, ◌≡◌, length, min, arith, Bool, false, not, ◌&&◌, ◌||◌, List, [], ◌∷◌, ◌++◌, Some, drop, slice_get, refl, ap, ◌∙◌}
use Rattle.std.proofs.Math.Seq.{drop-nil}
use Rattle.std.proofs.lemmas.List.{drop_more}
use Rattle.std.proofs.lemmas.Option.{get_or_from_slice_get}
use Rattle.pj_shape.specs.declared.columns.Column.{Column}
use Rattle.pj_plan.specs.declared.node.PlanNode.{PlanNode}
use Rattle.pj_plan.specs.Canonical.{no_node, node_at}
use Rattle.pj_scheme.specs.Derived.{mark_at, each_marked, schemes_at, inputs_schemes, joined, node_schemes, derived_from}

pub each_turn : (test : ℕ → Bool) (column : ℕ) (marks : List Bool) → column < length marks
    → each_marked test column (drop column marks) ≡ ((not (mark_at marks column) || test column) && each_marked test (column + 1) (drop (column + 1) marks))
each_turn test column marks lt = ap (each_marked test column) (drop_more marks column false lt)

pub schemes_got : (all : List (List (List Bool))) (number : ℕ) (list : List (List Bool)) → slice_get all number ≡ Some list → schemes_at all number ≡ list
schemes_got all number list e = get_or_from_slice_get all number list [] e

pub joined_end : (before k : ℕ) (schemas : List (List Column)) (done : List (List (List Bool))) (inputs : List ℕ) → min (length inputs) (length schemas) ≤ k
    → joined before (drop k schemas) (inputs_schemes done (drop k inputs)) ≡ []
joined_end before k [] done inputs h = ap (λ (s : List (List Column)). joined before s (inputs_schemes done (drop k inputs))) (drop-nil k)
joined_end before k (schema ∷ schemas) done [] h = ap (λ (i : List ℕ). joined before (drop k (schema ∷ schemas)) (inputs_schemes done i)) (drop-nil k) ∙ without (drop k (schema ∷ schemas))
  where
    without : (rest : List (List Column)) → joined before rest [] ≡ []
    without [] = refl
    without (other ∷ others) = refl
joined_end before zero (schema ∷ schemas) done (input ∷ inputs) h = absurd (omega arith)
joined_end before (suc k) (schema ∷ schemas) done (input ∷ inputs) h = joined_end before k schemas done inputs (omega arith)

pub derived_turn : (nodes : List PlanNode) (done : List (List (List Bool))) (n : ℕ) → n < length nodes
    → derived_from done (drop n nodes) ≡ derived_from (done ++ node_schemes done (node_at nodes n) ∷ []) (drop (n + 1) nodes)
derived_turn nodes done n lt = ap (derived_from done) (drop_more nodes n no_node lt)
