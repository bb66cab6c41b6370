-- The joins of a plan among its nodes, by their numbers.
use Rattle.std.proofs.Common.{ℕ, zero, suc, ◌+◌, ◌<◌, Bool, true, false, cond, List, [], ◌∷◌, ◌≡◌, None, length, get_or, refl, sym, ap, ap₂, ◌∙◌, subst, zero-add, arith}
use Rattle.pj_plan.specs.declared.node.PlanNode.{PlanNode}
use Rattle.pj_plan.specs.declared.node.Outline.{Outline}
use Rattle.pj_plan.specs.Nodes.{is_join, joins_of, numbers_from}
use Rattle.pj_plan.specs.Canonical.{node_at, node_name}
use Rattle.pj_events.specs.declared.events.Entry.{Entry}
use Rattle.pj_core.specs.Cores.{CoreState, StandsFor}
use Rattle.pj_core.specs.Calls.{IsJoinNode, IsPeak}
use Rattle.pj_report.specs.Report.{peak_line}
use Rattle.pj_run.specs.Runs.{peak_report}

-- a number is that of a join
record IsJoinAt (n : ℕ) (nodes : List PlanNode) (number : ℕ) : Type 0 where
  place : ℕ
  at : number ≡ n + place
  there : place < length nodes
  join : is_join (node_at nodes place) ≡ true

join-from : (n : ℕ) (nodes : List PlanNode) (k d : ℕ) → k < length (numbers_from is_join n nodes) → IsJoinAt n nodes (get_or (numbers_from is_join n nodes) k d)
join-from n [] k d lt = absurd (omega (arith, lt))
join-from n (node ∷ nodes) k d lt = go (is_join node.node) refl k lt (λ m less. join-from (n + 1) nodes m d less)
  where
    others : List ℕ
    others = numbers_from is_join (n + 1) nodes

    further : (number : ℕ) → IsJoinAt (n + 1) nodes number → IsJoinAt n (node ∷ nodes) number
    further number a =
        let at = a.at in
        let there = a.there in
        record { place = suc a.place; at = omega (arith, at); there = omega (arith, there); join = a.join }

    go : (b : Bool) → is_join node.node ≡ b → (m : ℕ) → m < length (cond b (n ∷ others) others) → ((l : ℕ) → l < length others → IsJoinAt (n + 1) nodes (get_or others l d))
        → IsJoinAt n (node ∷ nodes) (get_or (cond b (n ∷ others) others) m d)
    go true q zero less ih = record { place = 0; at = (let e : n ≡ n + 0 = omega arith in e); there = omega arith; join = q }
    go true q (suc m) less ih = further (get_or others m d) (ih m (omega (arith, less)))
    go false q m less ih = further (get_or others m d) (ih m less)

-- the numbers of the joins are those of joins
pub join-at : (core : CoreState) (k d : ℕ) → k < length (joins_of core.plan.nodes) → IsJoinNode core (get_or (joins_of core.plan.nodes) k d)
join-at core k d lt =
    let nodes : List PlanNode = core.plan.nodes in
    let a : IsJoinAt 0 nodes (get_or (joins_of nodes) k d) = join-from 0 nodes k d lt in
    let same : a.place ≡ get_or (joins_of nodes) k d = sym (zero-add a.place) ∙ sym a.at in
    subst (IsJoinNode core) same (a.there, a.join)

-- what a walk over them meets
pub join-met : (core : CoreState) (joins : List ℕ) (k join : ℕ) → joins ≡ joins_of core.plan.nodes → k < length joins → join ≡ get_or joins k 0 → IsJoinNode core join
join-met core joins k join are lt is =
    let less : k < length (joins_of core.plan.nodes) = subst (λ (ns : List ℕ). k < length ns) are lt in
    subst (IsJoinNode core) (sym (is ∙ ap (λ (ns : List ℕ). get_or ns k 0) are)) (join-at core k 0 less)

-- the line of a join's peak, with the name that the plan gives it and the peak that the core tells
pub peak-line-is : (core : CoreState) (history : List Entry) (joins : List ℕ) (k peak : ℕ) (name : List ℕ) (plan : Outline) → plan.nodes ≡ core.plan.nodes → joins ≡ joins_of core.plan.nodes → name ≡ node_name plan.nodes (get_or joins k 0)
    → IsPeak core (get_or joins k 0) peak → core.kept.stop ≡ None → StandsFor core history → peak_line name peak ∷ [] ≡ peak_report core.plan history (get_or (joins_of core.plan.nodes) k 0) ∷ []
peak-line-is core history joins k peak name plan same are named at on stands =
    ap₂ (λ (n : List ℕ) (m : ℕ). peak_line n m ∷ []) (named ∙ ap (λ (ns : List PlanNode). node_name ns (get_or joins k 0)) same) (at on history stands)
    ∙ ap (λ (ns : List ℕ). peak_report core.plan history (get_or ns k 0) ∷ []) are
