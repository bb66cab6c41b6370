-- The auction's plan behind a hub, and feeds of its streams.
use Rattle.std.proofs.Common.{ℕ, ◌≡◌, ◌<◌, List, [], length, sym, ap, ◌∙◌, subst, arith}
use Rattle.pj_plan.specs.declared.node.PlanNode.{PlanNode}
use Rattle.pj_plan.specs.Nodes.{stream_columns, streams_in}
use Rattle.pj_plan.specs.Sound.{IsSoundPlan}
use Rattle.pj_events.specs.declared.events.Entry.{Entry}
use Rattle.pj_feed.specs.Feeds.{FeedState}
use Rattle.pj_laws.specs.HistoryLaws.{schema_at}
use Rattle.pj_laws.specs.Seats.{HubPlan, made_by}
use Rattle.pj_core.specs.Plans.{RunPlan, nodes_of}
use Rattle.pj_core_laws.proofs.PlainAnswers.{same-streams}
use Rattle.pj_hub.proofs.Plans.{schema-is}
use Rattle.pj_workers.specs.Feeds.{FreshFeedsStand, IsFeeding}
use Rattle.pj_test_threads.proofs.Auctions.{has-input}
use Rattle.pj_test_workers.specs.Auctions.{IsAuction, IsAuctionPlan, IsNewFeed}

-- ---- the plan

pub auction-of : (plan : RunPlan) (limit : ℕ) → IsSoundPlan plan.nodes → IsAuctionPlan plan.nodes → IsAuction plan.nodes (record { nodes = nodes_of plan; limit = limit; trace = plan.trace })
auction-of plan limit sound is = record {
  plan = is;
  two = ap length (same-streams plan) ∙ is.two;
  columns = λ stream lt. schema-is plan stream (let two = is.two in omega (arith, two, lt));
  first = has-input plan sound 2 0 is.join (omega arith);
  second = has-input plan sound 2 1 is.join (omega arith);
}

-- ---- feeds

-- a new feed stands where a new seat's arrivals do
pub feeding : (nodes : List PlanNode) (hub : HubPlan) (stream n : ℕ) (seen : List Entry) (from : FeedState)
    → FreshFeedsStand → IsAuction nodes hub → stream < 2 → n ≡ stream → seen ≡ []
    → IsNewFeed stream (stream_columns (streams_in nodes) stream) from → IsFeeding hub n (made_by n seen) from
feeding nodes hub stream n seen from fresh is lt same none new =
    subst (λ (l : List Entry). IsFeeding hub n (made_by n l) from) (sym none)
    (fresh hub n from (new.number ∙ sym same)
    (new.has_columns ∙ (sym (is.columns stream lt) ∙ ap (λ (k : ℕ). schema_at hub.nodes k) (sym same)))
    new.still new.fed new.none)
