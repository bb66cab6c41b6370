-- Trees stay trees, a climb goes from node to node above, and ends at the last node where each other node feeds one.
use Rattle.std.proofs.Common.{ℕ, zero, suc, ◌+◌, ◌<◌, ◌≤◌, List, [], ◌∷◌, ◌++◌, ◌≡◌, ◌⊎◌, Option, Some, None, length, get_or, refl, sym, ap, ap₂, ◌∙◌, subst, inl, inr, arith}
use Rattle.std.specs.Prelude.{pred}
use Rattle.std.proofs.lemmas.Bool.{cases_lt}
use Rattle.pj_events.specs.Join.{AreDistinct, Element}
use Rattle.pj_events.specs.Plan.{Node, PlanStep, handed_at, moved, nowhere, ArePlanned}
use Rattle.pj_events.specs.declared.events.Entry.{Entry}
use Rattle.pj_events.specs.History.{root_of, step_of, nodes_by, nodes_from}
use Rattle.pj_events.specs.Outcomes.{place_in}
use Rattle.pj_laws.specs.Climb.{all_inputs, StandBehind, IsTree, Above, first_above, above_from, above, HasOneTop, node_after, Load, coming, going_on, climbed_from, climbed}
use Rattle.pj_laws.proofs.Climbing.{placed-none}
use Rattle.pj_laws.proofs.Follow.{planned-behind, behind-moved}

-- ---- trees stay trees

inputs-moved : (e : PlanStep) (done : List (List Element)) (nodes : List Node) → all_inputs (moved e done nodes) ≡ all_inputs nodes
inputs-moved e done [] = refl
inputs-moved e done (node ∷ nodes) = ap (λ (ms : List ℕ). node.inputs ++ ms) (inputs-moved e (done ++ handed_at e done node ∷ []) nodes)

pub tree-moved : (nodes : List Node) (e : PlanStep) → IsTree nodes → IsTree (moved e [] nodes)
tree-moved nodes e t = record { behind = behind-moved e [] 0 nodes t.behind; once = subst AreDistinct (sym (inputs-moved e [] nodes)) t.once }

pub tree-from : (nodes : List Node) (h : List Entry) → IsTree nodes → IsTree (nodes_from nodes h)
tree-from nodes [] t = t
tree-from nodes (entry ∷ h) t = tree-from (nodes_by nodes entry.event) h (tree-moved nodes (step_of nodes entry.event) t)

above-moved : (e : PlanStep) (done : List (List Element)) (k : ℕ) (nodes : List Node) (n : ℕ) → above_from k (moved e done nodes) n ≡ above_from k nodes n
above-moved e done k [] n = refl
above-moved e done k (node ∷ nodes) n = ap (first_above k (place_in 0 node.inputs n)) (above-moved e (done ++ handed_at e done node ∷ []) (k + 1) nodes n)

-- what each node feeds stays
pub above-from : (nodes : List Node) (h : List Entry) (n : ℕ) → above (nodes_from nodes h) n ≡ above nodes n
above-from nodes [] n = refl
above-from nodes (entry ∷ h) n = above-from (nodes_by nodes entry.event) h n ∙ above-moved (step_of nodes entry.event) [] 0 nodes n

-- a planned list of nodes, no number of which stands twice among the inputs, is a tree
pub planned-tree : (nodes : List Node) → ArePlanned [] nodes → AreDistinct (all_inputs nodes) → IsTree nodes
planned-tree nodes p d = record { behind = planned-behind [] 0 nodes refl p; once = d }

-- ---- a node of a climb is what came to it makes of it

pub climbed-at : (k : ℕ) (load : Load) (nodes : List Node) (m : ℕ) → m < length nodes
    → get_or (climbed_from k load nodes).nodes m nowhere ≡ node_after (get_or nodes m nowhere) (get_or (climbed_from k load nodes).brought m [])
climbed-at k load [] m lt = absurd (omega (arith, lt))
climbed-at k load (node ∷ nodes) zero lt = refl
climbed-at k load (node ∷ nodes) (suc m) lt = climbed-at (k + 1) (going_on (place_in 0 node.inputs load.from) k node load) nodes m (omega (arith, lt))

pub length-climbed : (k : ℕ) (load : Load) (nodes : List Node) → length (climbed_from k load nodes).nodes ≡ length nodes
length-climbed k load [] = refl
length-climbed k load (node ∷ nodes) = ap suc (length-climbed (k + 1) (going_on (place_in 0 node.inputs load.from) k node load) nodes)

pub length-brought : (k : ℕ) (load : Load) (nodes : List Node) → length (climbed_from k load nodes).brought ≡ length nodes
length-brought k load [] = refl
length-brought k load (node ∷ nodes) = ap suc (length-brought (k + 1) (going_on (place_in 0 node.inputs load.from) k node load) nodes)

-- ---- where a climb ends

-- a climb ends where it began, or at a node behind
ends-behind : (k : ℕ) (load : Load) (nodes : List Node) → ((climbed_from k load nodes).left.from ≡ load.from) ⊎ (k ≤ (climbed_from k load nodes).left.from)
ends-behind k load [] = inl refl
ends-behind k load (node ∷ nodes) = go (place_in 0 node.inputs load.from) (ends-behind (k + 1) (going_on (place_in 0 node.inputs load.from) k node load) nodes)
  where
    go : (o : Option ℕ) → ((climbed_from (k + 1) (going_on o k node load) nodes).left.from ≡ (going_on o k node load).from) ⊎ (k + 1 ≤ (climbed_from (k + 1) (going_on o k node load) nodes).left.from)
        → ((climbed_from (k + 1) (going_on o k node load) nodes).left.from ≡ load.from) ⊎ (k ≤ (climbed_from (k + 1) (going_on o k node load) nodes).left.from)
    go None (inl q) = inl q
    go None (inr le) = inr (omega (arith, le))
    go (Some input) (inl q) = inr (omega (arith, q))
    go (Some input) (inr le) = inr (omega (arith, le))

ends-below : (k : ℕ) (load : Load) (nodes : List Node) → load.from < k + length nodes → (climbed_from k load nodes).left.from < k + length nodes
ends-below k load [] lt = lt
ends-below k load (node ∷ nodes) lt =
    let b = ends-below (k + 1) (going_on (place_in 0 node.inputs load.from) k node load) nodes (go (place_in 0 node.inputs load.from)) in omega (arith, b)
  where
    go : (o : Option ℕ) → (going_on o k node load).from < k + 1 + length nodes
    go None = omega (arith, lt)
    go (Some input) = omega arith

-- the node at which a climb ends feeds none of those behind
ends-on-top : (k : ℕ) (load : Load) (nodes : List Node) → StandBehind k nodes → above_from k nodes (climbed_from k load nodes).left.from ≡ None
ends-on-top k load [] b = refl
ends-on-top k load (node ∷ nodes) b =
    ap₂ (first_above k) (go (place_in 0 node.inputs load.from) refl (ends-behind (k + 1) (going_on (place_in 0 node.inputs load.from) k node load) nodes))
    (ends-on-top (k + 1) (going_on (place_in 0 node.inputs load.from) k node load) nodes b.1)
  where
    past : (t : ℕ) → k ≤ t → place_in 0 node.inputs t ≡ None
    past t le = placed-none 0 node.inputs t (λ m h q. let l = b.0 m h in omega (arith, l, le, q))

    go : (o : Option ℕ) → place_in 0 node.inputs load.from ≡ o
        → ((climbed_from (k + 1) (going_on o k node load) nodes).left.from ≡ (going_on o k node load).from) ⊎ (k + 1 ≤ (climbed_from (k + 1) (going_on o k node load) nodes).left.from)
        → place_in 0 node.inputs (climbed_from (k + 1) (going_on o k node load) nodes).left.from ≡ None
    go None p (inl q) = ap (place_in 0 node.inputs) q ∙ p
    go None p (inr le) = past (climbed_from (k + 1) load nodes).left.from (omega (arith, le))
    go (Some input) p (inl q) = past (climbed_from (k + 1) (going_on (Some input) k node load) nodes).left.from (omega (arith, q))
    go (Some input) p (inr le) = past (climbed_from (k + 1) (going_on (Some input) k node load) nodes).left.from (omega (arith, le))

pub ends-at-top : (nodes : List Node) (n : ℕ) (es : List Element) → IsTree nodes → above nodes (climbed nodes n es).left.from ≡ None
ends-at-top nodes n es t = ends-on-top 0 (record { from = n; elements = es }) nodes t.behind

-- where each node but the last feeds one, a climb ends at the last
pub ends-at-root : (nodes : List Node) (n : ℕ) (es : List Element) → IsTree nodes → HasOneTop nodes → n < length nodes → (climbed nodes n es).left.from ≡ root_of nodes
ends-at-root nodes n es t top lt = elim (cases_lt ((climbed nodes n es).left.from + 1) (length nodes)) [
  | inl l ↦ absurd (none-some (top (climbed nodes n es).left.from l).0 (sym (ends-at-top nodes n es t) ∙ (top (climbed nodes n es).left.from l).1))
  | inr ge ↦ last (length nodes) refl (ends-below 0 (record { from = n; elements = es }) nodes (omega (arith, lt)))
      (omega (arith, ge))
]
  where
    none-some : (a : Above) → None ≡ Some a → ⊥
    none-some a e = cc

    last : (len : ℕ) → length nodes ≡ len → (climbed nodes n es).left.from < 0 + length nodes → length nodes ≤ (climbed nodes n es).left.from + 1 → (climbed nodes n es).left.from ≡ pred (length nodes)
    last zero q a b = absurd (omega (arith, q, a))
    last (suc len) q a b = let z : (climbed nodes n es).left.from ≡ len = omega (arith, q, a, b) in z ∙ sym (ap pred q)

-- nothing comes to the nodes up to the one where a climb begins
pub none-before : (k : ℕ) (load : Load) (nodes : List Node) (m : ℕ) → StandBehind k nodes → k + m ≤ load.from → get_or (climbed_from k load nodes).brought m [] ≡ []
none-before k load [] m b le = refl
none-before k load (node ∷ nodes) zero b le =
    ap (λ (o : Option ℕ). coming o load.elements) (placed-none 0 node.inputs load.from (λ i h q. let l = b.0 i h in omega (arith, l, le, q)))
none-before k load (node ∷ nodes) (suc m) b le =
    ap (λ (o : Option ℕ). get_or (climbed_from (k + 1) (going_on o k node load) nodes).brought m []) (placed-none 0 node.inputs load.from (λ i h q. let l = b.0 i h in omega (arith, l, le, q)))
    ∙ none-before (k + 1) load nodes m b.1 (omega (arith, le))
