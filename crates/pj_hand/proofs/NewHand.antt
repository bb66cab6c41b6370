-- Behind no history that a new core stands for is a ticket under way.
use Rattle.std.proofs.Common.{ℕ, false, List, [], ◌≡◌, filter, map, get_or, sym, ap, ◌∙◌, subst, inl, inr, arith}
use Rattle.std.proofs.lemmas.List.{get_or-map}
use Rattle.pj_value.specs.Lists.{has}
use Rattle.pj_events.specs.declared.events.Entry.{Entry}
use Rattle.pj_events.specs.CoreKept.{CoreKept, GroupKept, JoinKept, KeptOperator, NothingKept, UnionKept, kept_in}
use Rattle.pj_events.specs.History.{join_at, nodes_from, state_in}
use Rattle.pj_events.specs.Join.{JoinState}
use Rattle.pj_events.specs.KeptState.{lacking}
use Rattle.pj_events.specs.Plan.{Join, Node, nowhere, operator_at}
use Rattle.pj_laws.proofs.JoinRuns.{join-runs}
use Rattle.pj_laws.proofs.Probes.{length-from}
use Rattle.pj_core.specs.Calls.{IsFresh}
use Rattle.pj_core.specs.Cores.{CoreState, StandsFor, nodes_in}
use Rattle.pj_core.specs.Plans.{RunPlan}
use Rattle.pj_core.proofs.Planned.{planned}
use Rattle.pj_script.specs.Playing.{under_way_at}
use Rattle.pj_hand.specs.Hands.{HandState, HandStandsFor}
use Rattle.pj_hand.specs.Steps.{IsNewHand}
use Rattle.pj_hand.proofs.UnderWay.{JoinsAt, node-cases}

-- the tickets that are not given, as they are kept
abbrev opened_of : KeptOperator → List ℕ
opened_of NothingKept = []
opened_of (UnionKept union) = []
opened_of (JoinKept join) = join.opened
opened_of (GroupKept group) = []

module _ (core : CoreState) (of : RunPlan) (limit : ℕ) (fresh : IsFresh core of limit) where
  abbrev plan : List Node
  plan = nodes_in core

  kept-same : (h : List Entry) → StandsFor core h → map (λ (node : Node). kept_in node.operator) (nodes_from plan h) ≡ map (λ (node : Node). kept_in node.operator) plan
  kept-same h S =
      let now = S.stands.0 (sym S.stands.3 ∙ fresh.on) in
      let before = fresh.stands.stands.0 (sym fresh.stands.stands.3 ∙ fresh.on) in
      ap (λ (k : CoreKept). k.nodes) (sym now ∙ before)

  none-opened : (h : List Entry) (n : ℕ) → StandsFor core h → (J : JoinsAt plan n) → lacking (join_at (nodes_from plan h) n).given (join_at (nodes_from plan h) n).tuples ≡ []
  none-opened h n S J =
      sym (ap opened_of (ap kept_in state))
      ∙ ap opened_of (
      sym (get_or-map (λ (node : Node). kept_in node.operator) (nodes_from plan h) n nowhere NothingKept (let l = length-from plan h in let t = J.there in omega (arith, l, t)))
      ∙ ap (λ (ks : List KeptOperator). get_or ks n NothingKept) (kept-same h S)
      ∙ get_or-map (λ (node : Node). kept_in node.operator) plan n nowhere NothingKept J.there
      ∙ ap kept_in J.starts)
    where
      state : operator_at (nodes_from plan h) n ≡ Join J.spec (join_at (nodes_from plan h) n)
      state = let s = (join-runs plan (planned core.plan fresh.sound)).state h n J.spec J.there J.starts in s ∙ ap (Join J.spec) (sym (ap state_in s))

  none-way : (h : List Entry) (n u : ℕ) → StandsFor core h → false ≡ has (under_way_at (nodes_from plan h) n) u
  none-way h n u S = elim (node-cases plan (planned core.plan fresh.sound) n) [
    | inl J ↦ sym (ap (λ (ts : List ℕ). has (filter (has (join_at (nodes_from plan h) n).taken) ts) u) (none-opened h n S J))
    | inr N ↦ sym (ap (λ (s : JoinState). has (filter (has s.taken) (lacking s.given s.tuples)) u) (N.still h))
  ]

pub new-hand : (core : CoreState) (of : RunPlan) (limit : ℕ) (hand : HandState) → IsFresh core of limit → hand.core ≡ core → hand.taken ≡ [] → IsNewHand core hand
new-hand core of limit hand fresh over none = record {
  over = over;
  none = none;
  stands = λ h S. subst (λ (x : HandState). HandStandsFor x h) (λ i. record { core = sym over i; taken = sym none i }) (record {
    stands = S;
    held = λ on. record { ordered = tt; those = λ n u. none-way core of limit fresh h n u S; finds = λ p i. absurd i };
  });
}
