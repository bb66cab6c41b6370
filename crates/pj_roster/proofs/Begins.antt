-- Assigned duties may begin.
use Rattle.std.proofs.Common.{◌≡◌, ◌<◌, ℕ, zero, suc, ◌+◌, arith, Bool, true, List, [], ◌∷◌, ◌++◌, length, slice_get, Some, get_or, refl, sym, ap, ◌∙◌, subst}
use Rattle.pj_plan.specs.declared.node.PlanNode.{PlanNode}
use Rattle.pj_plan.specs.Canonical.{no_node}
use Rattle.pj_plan.specs.Nodes.{streams_in, streams_of}
use Rattle.pj_plan.specs.Sound.{IsSoundPlan}
use Rattle.pj_scheme.specs.Derived.{schemes_of}
use Rattle.pj_events.specs.Plan.{Node, Operator}
use Rattle.pj_events.specs.History.{streams_of as streams_among}
use Rattle.pj_feed.specs.Feeds.{AreNew, FeedState, count_of}
use Rattle.pj_feed.proofs.AllFeeds.{IsOneOf, one_of}
use Rattle.pj_feed.proofs.StreamNodes.{count_numbers}
use Rattle.pj_laws.specs.HistoryLaws.{schema_at}
use Rattle.pj_laws.specs.Seats.{HasInput, HubPlan, IsInputOf}
use Rattle.pj_core.specs.Plans.{RunPlan, nodes_of}
use Rattle.pj_core.proofs.Frames.{certs_at, operator-is}
use Rattle.pj_core.proofs.Planned.{nodes-long}
use Rattle.pj_core_laws.proofs.Allowed.{input-of}
use Rattle.pj_core_laws.proofs.PlainAnswers.{same-streams}
use Rattle.pj_hub.proofs.Plans.{schema-is}
use Rattle.pj_workers.specs.Feeds.{IsFeeding}
use Rattle.pj_workers.proofs.Fed.{fresh-stands}
use Rattle.pj_crew.specs.declared.duties.Duty.{Duty}
use Rattle.pj_crew.specs.declared.duties.Duty.TheVariants.{Feed, Probe, Sweep}
use Rattle.pj_crew.specs.Duties.{MayBeginFrom}
use Rattle.pj_roster.specs.Assigned.{AreAssigned, AreOthers, IsPlace, feeders}
use Rattle.pj_roster.specs.Rosters.{AreNewFeeds, RostersBegin}

-- ---- probers and sweepers

-- a join of the plan and one of its inputs
input-at : (plan : RunPlan) → IsSoundPlan plan.nodes → (place : ℕ × ℕ) → IsPlace plan.nodes place → IsInputOf (nodes_of plan) place.0 place.1
input-at plan sound place is = (
  (let there = is.0 in omega (arith, there, nodes-long plan)),
  subst (λ (o : Operator). HasInput o place.1) (sym (operator-is (schemes_of plan.nodes) plan.certs plan.nodes place.0 is.0))
      (input-of plan.nodes (schemes_of plan.nodes) (certs_at plan.nodes plan.certs place.0) (get_or plan.nodes place.0 no_node).schema (get_or plan.nodes place.0 no_node).node place.1 (sound.each place.0 is.0).operator is.1 is.2),
)

others-begin : {S : Type 0} (hub : HubPlan) (nodes : List PlanNode) → ((place : ℕ × ℕ) → IsPlace nodes place → IsInputOf hub.nodes place.0 place.1)
    → (seat : ℕ) (others : List (Duty S)) → AreOthers nodes others → MayBeginFrom hub seat others
others-begin hub nodes input seat [] are = tt
others-begin hub nodes input seat (Feed stream feed kept end ∷ others) are = absurd are.0
others-begin hub nodes input seat (Probe index end ∷ others) are = (tt, others-begin hub nodes input (seat + 1) others are.1)
others-begin hub nodes input seat (Sweep index places end ∷ others) are = ((λ k d lt. input _ (are.0 k d lt)), others-begin hub nodes input (seat + 1) others are.1)

-- ---- feeders

-- the feed stands at the beginning of the stream of this number
record IsReadyAt (hub : HubPlan) (n : ℕ) (feed : FeedState) : Type 0 where
  there : n < length (streams_among hub.nodes)
  feeding : IsFeeding hub n [] feed

moved-to : (hub : HubPlan) (n m : ℕ) (feed : FeedState) → n ≡ m → IsReadyAt hub n feed → IsReadyAt hub m feed
moved-to hub n m feed e is = subst (λ k. IsReadyAt hub k feed) e is

begin-from : {S : Type 0} (hub : HubPlan) (k : ℕ) (keep : Bool) (feeds : List FeedState) (others : List (Duty S)) → ((i : ℕ) (feed : FeedState) → slice_get feeds i ≡ Some feed → IsReadyAt hub (k + i) feed)
    → ((seat : ℕ) → MayBeginFrom hub seat others) → MayBeginFrom hub k (feeders k keep feeds ++ others)
begin-from hub k keep [] others each rest = rest k
begin-from hub k keep (feed ∷ feeds) others each rest =
    let first = moved-to hub (k + 0) k feed (omega (arith)) (each 0 feed refl) in (
      (refl, first.there, first.feeding),
      begin-from hub (k + 1) keep feeds others (λ i f e. moved-to hub (k + suc i) (k + 1 + i) f (omega (arith)) (each (suc i) f e)) rest,
    )

-- nothing was taken of the feed at a place
new-at : (feeds : List FeedState) (i : ℕ) (feed : FeedState) → AreNew feeds → slice_get feeds i ≡ Some feed → (feed.is_open ≡ true) × (count_of feed ≡ 0)
new-at [] i feed are e = absurd (cc)
new-at (f ∷ feeds) zero feed are e = let same : f ≡ feed = cc in (subst (λ (g : FeedState). g.is_open ≡ true) same are.0, subst (λ (g : FeedState). count_of g ≡ 0) same are.1)
new-at (f ∷ feeds) (suc i) feed are e = new-at feeds i feed are.2 e

ready-at : (hub : HubPlan) (plan : RunPlan) → hub.nodes ≡ nodes_of plan → (feeds : List FeedState) → AreNewFeeds plan.nodes feeds → (i : ℕ) (feed : FeedState) → slice_get feeds i ≡ Some feed → IsReadyAt hub (0 + i) feed
ready-at hub plan runs feeds are i feed e = record {
  there = omega (arith, lt, ap length (ap (λ (ns : List Node). streams_among ns) runs ∙ same-streams plan));
  feeding = fresh-stands hub (0 + i) feed one.is_number
      (one.schema ∙ (sym (schema-is plan i lt) ∙ ap (λ (n : ℕ). schema_at (nodes_of plan) n) (let same : i ≡ 0 + i = omega (arith) in same) ∙ ap (λ (ns : List Node). schema_at ns (0 + i)) (sym runs)))
      fresh.0 one.fed fresh.1;
}
  where
    one : IsOneOf (streams_in plan.nodes) (0 + i) i feed
    one = one_of 0 (streams_in plan.nodes) feeds i feed are.each e

    fresh : (feed.is_open ≡ true) × (count_of feed ≡ 0)
    fresh = new-at feeds i feed are.are_new e

    lt : i < length (streams_of plan.nodes)
    lt = omega (arith, one.there, count_numbers plan.nodes)

-- ---- all of them

begins-at : {S : Type 0} (hub : HubPlan) (plan : RunPlan) → IsSoundPlan plan.nodes → hub.nodes ≡ nodes_of plan → (feeds : List FeedState) → AreNewFeeds plan.nodes feeds
    → (keep : Bool) (duties : List (Duty S)) → AreAssigned plan.nodes keep feeds duties → MayBeginFrom hub 0 duties
begins-at hub plan sound runs feeds new keep duties is =
    subst (MayBeginFrom hub 0) (sym is.are)
    (begin-from hub 0 keep feeds is.others (ready-at hub plan runs feeds new)
    (λ seat. others-begin hub plan.nodes (λ place at. subst (λ (ns : List Node). IsInputOf ns place.0 place.1) (sym runs) (input-at plan sound place at)) seat is.others is.are_others))

pub begins : (S : Type 0) → RostersBegin S
begins S hub nodes sound runs feeds new keep duties is =
    begins-at hub runs.plan (subst IsSoundPlan (sym runs.of_nodes) sound) runs.runs feeds (subst (λ (ns : List PlanNode). AreNewFeeds ns feeds) (sym runs.of_nodes) new) keep duties
    (subst (λ (ns : List PlanNode). AreAssigned ns keep feeds duties) (sym runs.of_nodes) is)
