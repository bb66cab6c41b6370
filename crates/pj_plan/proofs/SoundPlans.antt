-- The plan that statements make is sound.
use Rattle.std.proofs.Common.{ℕ, zero, suc, ◌+◌, ◌<◌, ◌≡◌, ◌⊎◌, length, arith, Bool, true, false, cond, ◌==◌, List, [], ◌∷◌, Some, None, Option, MatchOption, slice_get, refl, sym, ap, ◌∙◌, subst, inl, inr}
use Rattle.std.proofs.lemmas.Bool.{eqb-true, eq-eqb, false≢true, cases_eq}
use Rattle.pj_value.specs.Lists.{In}
use Rattle.pj_value.proofs.Members.{In-append_left, In-append_right, In-append_cases, in_at}
use Rattle.pj_plan.specs.declared.node.PlanNode.{PlanNode}
use Rattle.pj_plan.specs.declared.node.Draft.{Draft}
use Rattle.pj_plan.specs.Nodes.{inputs_of, input_from, or_else, parent_from}
use Rattle.pj_plan.specs.Canonical.{node_at}
use Rattle.pj_plan.specs.Built.{no_draft}
use Rattle.pj_plan.specs.Sound.{all_inputs, HasParent, IsSoundPlan, IsSoundNode}
use Rattle.pj_plan.specs.Laws.{PlanIsSound}
use Rattle.pj_plan.proofs.Drafts.{IsEnd, IsSoundDraft, after_sound, IsDone, built_keeps}

-- ---- where a node leads

-- the number stands among these inputs, at this position or behind it
abbrev StandsAmong : ℕ → ℕ → List ℕ → ℕ → Type 0
StandsAmong node from inputs n = (place : ℕ) × (position : ℕ) × (input_from node from inputs n ≡ Some (node, position)) × (position ≡ from + place) × (slice_get inputs place ≡ Some n)

among_inputs : (node from : ℕ) (inputs : List ℕ) (n : ℕ) → (input_from node from inputs n ≡ None) ⊎ StandsAmong node from inputs n
among_inputs node from [] n = inl refl
among_inputs node from (m ∷ ms) n = go (m == n) refl (among_inputs node (from + 1) ms n)
  where
    go : (b : Bool) → (m == n) ≡ b → (input_from node (from + 1) ms n ≡ None) ⊎ StandsAmong node (from + 1) ms n
        → (cond b (Some (node, from)) (input_from node (from + 1) ms n) ≡ None)
        ⊎ ((place : ℕ) × (position : ℕ) × (cond b (Some (node, from)) (input_from node (from + 1) ms n) ≡ Some (node, position)) × (position ≡ from + place) × (slice_get (m ∷ ms) place ≡ Some n))
    go true e ih = inr (0, from, refl, omega arith, ap Some (eqb-true m n e))
    go false e (inl none) = inl none
    go false e (inr r) = inr (suc r.0, r.1, r.2, omega (arith, r.3), r.4)

among_if : (node from : ℕ) (inputs : List ℕ) (n : ℕ) → In n inputs → input_from node from inputs n ≡ None → ⊥
among_if node from [] n h e = h
among_if node from (m ∷ ms) n h e = go (m == n) refl h e (among_if node (from + 1) ms n)
  where
    go : (b : Bool) → (m == n) ≡ b → In n (m ∷ ms) → cond b (Some (node, from)) (input_from node (from + 1) ms n) ≡ None → (In n ms → input_from node (from + 1) ms n ≡ None → ⊥) → ⊥
    go true t h e ih = cc
    go false t (inl q) e ih = false≢true (sym t ∙ eq-eqb m n q)
    go false t (inr k) e ih = ih k e

-- a node from this number on has the number among its inputs, and is the parent
abbrev LeadsFrom : ℕ → List PlanNode → ℕ → Type 0
LeadsFrom from nodes n =
    (place : ℕ) × (m : ℕ) × (position : ℕ) × (parent_from from nodes n ≡ Some (m, position)) × (m ≡ from + place) × (place < length nodes)
    × (slice_get (inputs_of (node_at nodes place)) position ≡ Some n)

leads : (from : ℕ) (nodes : List PlanNode) (n : ℕ) → In n (all_inputs nodes) → LeadsFrom from nodes n
leads from [] n h = absurd h
leads from (node ∷ nodes) n h = go (input_from from 0 (inputs_of node.node) n) refl (among_inputs from 0 (inputs_of node.node) n) (leads (from + 1) nodes n)
  where
    rest : input_from from 0 (inputs_of node.node) n ≡ None → In n (all_inputs nodes)
    rest none = elim (In-append_cases n (inputs_of node.node) (all_inputs nodes) h) [ inl k ↦ absurd (among_if from 0 (inputs_of node.node) n k none) | inr k ↦ k ]

    go : (o : Option (ℕ × ℕ)) → input_from from 0 (inputs_of node.node) n ≡ o → (o ≡ None) ⊎ ((place : ℕ) × (position : ℕ) × (o ≡ Some (from, position)) × (position ≡ 0 + place) × (slice_get (inputs_of node.node) place ≡ Some n))
        → (In n (all_inputs nodes) → LeadsFrom (from + 1) nodes n)
        → (place : ℕ) × (m : ℕ) × (position : ℕ) × (or_else o (parent_from (from + 1) nodes n) ≡ Some (m, position)) × (m ≡ from + place) × (place < suc (length nodes)) × (slice_get (inputs_of (node_at (node ∷ nodes) place)) position ≡ Some n)
    go None e (inl none) ih = let r = ih (rest e) in (suc r.0, r.1, r.2, r.3, omega (arith, r.4), omega (arith, r.5), r.6)
    go None e (inr r) ih = absurd cc
    go (Some x) e (inl none) ih = absurd cc
    go (Some x) e (inr r) ih =
        let same : r.0 ≡ r.1 = omega (arith, r.3) in
        (0, from, r.1, r.2, omega arith, omega arith, subst (λ (k : ℕ). slice_get (inputs_of node.node) k ≡ Some n) same r.4)

leads_nowhere : (from : ℕ) (nodes : List PlanNode) (n : ℕ) → ¬ In n (all_inputs nodes) → parent_from from nodes n ≡ None
leads_nowhere from [] n out = refl
leads_nowhere from (node ∷ nodes) n out = go (input_from from 0 (inputs_of node.node) n) (among_inputs from 0 (inputs_of node.node) n) (leads_nowhere (from + 1) nodes n (λ h. out (In-append_right n (inputs_of node.node) (all_inputs nodes) h)))
  where
    go : (o : Option (ℕ × ℕ)) → (o ≡ None) ⊎ ((place : ℕ) × (position : ℕ) × (o ≡ Some (from, position)) × (position ≡ 0 + place) × (slice_get (inputs_of node.node) place ≡ Some n)) → parent_from (from + 1) nodes n ≡ None → or_else o (parent_from (from + 1) nodes n) ≡ None
    go None k ih = ih
    go (Some x) (inl none) ih = cc
    go (Some x) (inr r) ih = absurd (out (In-append_left n (inputs_of node.node) (all_inputs nodes) (in_at (inputs_of node.node) r.0 n r.4)))

-- ---- the whole plan

pub led_from : (nodes : List PlanNode) → ((n : ℕ) → n < length nodes → IsSoundNode nodes n) → (n : ℕ) → In n (all_inputs nodes) → HasParent nodes n
led_from nodes each n h =
    let r = leads 0 nodes n h in
    let same : r.0 ≡ r.1 = omega (arith, r.4) in
    let below : r.1 < length nodes = omega (arith, same, r.5) in
    let there : slice_get (inputs_of (node_at nodes r.1)) r.2 ≡ Some n = subst (λ (k : ℕ). slice_get (inputs_of (node_at nodes k)) r.2 ≡ Some n) same r.6 in
    (r.1, r.2, r.3, (each r.1 below).before n (in_at (inputs_of (node_at nodes r.1)) r.2 n there), below, there)

-- the output is the last node
end_last : (nodes : List PlanNode) (output : ℕ) → ((n : ℕ) → n < length nodes → IsSoundNode nodes n) → IsEnd nodes output → output + 1 ≡ length nodes
end_last nodes output each end = go (cases_eq (output + 1) (length nodes))
  where
    last : (n : ℕ) → n + 1 ≡ length nodes → In n (all_inputs nodes) → ⊥
    last n e h = let r = led_from nodes each n h in absurd (omega (arith, e, r.3, r.4))

    go : (output + 1 ≡ length nodes) ⊎ (output + 1 ≡ length nodes → ⊥) → output + 1 ≡ length nodes
    go (inl e) = e
    go (inr n) = absurd (below n)
      where
        at_end : (k : ℕ) → length nodes ≡ k + 1 → (k ≡ output → ⊥)
        at_end k e f = n (omega (arith, e, f))

        count : (k : ℕ) → length nodes ≡ k → ⊥
        count zero e = let t : output < length nodes = end.there in absurd (omega (arith, e, t))
        count (suc k) e =
            let one : length nodes ≡ k + 1 = omega (arith, e) in
            last k (sym one) (end.others_feed k (omega (arith, e)) (at_end k one))

        below : (output + 1 ≡ length nodes → ⊥) → ⊥
        below m = count (length nodes) refl

pub draft_sound : (draft : Draft) (output : ℕ) → IsSoundDraft draft → draft.output ≡ Some output → IsSoundPlan draft.nodes
draft_sound draft output sound e =
    let nodes : List PlanNode = draft.nodes in
    let end : IsEnd nodes output = subst (λ (o : Option ℕ). MatchOption o (Unit {0}) (IsEnd nodes)) e sound.ended in
    let there : output < length nodes = end.there in
    let last : output + 1 ≡ length nodes = end_last nodes output sound.each end in
    record {
      some = omega (arith, there);
      few = sound.few;
      few_streams = sound.few_streams;
      names = sound.names;
      each = sound.each;
      once = sound.once;
      led = λ n lt. led_from nodes sound.each n (end.others_feed n (omega (arith, lt)) (λ f. absurd (omega (arith, lt, f, last))));
      last = λ n m. let same : output ≡ n = omega (arith, m, last) in leads_nowhere 0 nodes n (subst (λ (k : ℕ). ¬ In k (all_inputs nodes)) same end.feeds_none);
    }

pub nothing_sound : IsSoundDraft no_draft
nothing_sound = record { few = omega arith; few_streams = omega arith; names = tt; each = λ n lt. absurd (omega (arith, lt)); once = tt; ended = tt }

pub plan_is_sound : PlanIsSound
plan_is_sound statements end plan spelled is =
    let done : IsDone IsSoundDraft plan = built_keeps IsSoundDraft after_sound statements no_draft end plan spelled nothing_sound is in
    subst IsSoundPlan done.nodes (draft_sound done.final done.output done.holds done.ended)
