-- What the duties of a crew come to, as they are handed out and as they are taken back.
use Rattle.std.specs.Prelude.{ℕ, ◌<◌, ◌≤◌, ◌≡◌, Bool, true, false, List, [], map, length, Some, None, slice_get}
use Rattle.std.specs.List.{AllZip}
use Rattle.pj_value.specs.declared.values.Value.{Value}
use Rattle.pj_pattern.specs.Elements.{rows_of}
use Rattle.pj_plan.specs.declared.node.PlanNode.{PlanNode}
use Rattle.pj_plan.specs.Nodes.{streams_in}
use Rattle.pj_plan.specs.Sound.{IsSoundPlan}
use Rattle.pj_feed.specs.Feeds.{AllTold, AreFeeds, AreNew, FeedState}
use Rattle.pj_laws.specs.Seats.{HubPlan}
use Rattle.pj_core.specs.Plans.{RunPlan, nodes_of}
use Rattle.pj_workers.specs.Feeds.{all_of}
use Rattle.pj_workers.specs.declared.feeding.FeedEnd.{FeedEnd}
use Rattle.pj_crew_laws.specs.Acts.{Fed, is_fault, is_writer, stop_told}
use Rattle.pj_crew_laws.specs.Crews.{AllWhole, Did, OfEach}
use Rattle.pj_crew.specs.declared.duties.Duty.{Duty}
use Rattle.pj_crew.specs.Duties.{IsSameDuty, MayBeginFrom, acts_of}
use Rattle.pj_roster.specs.Assigned.{AreAssigned}
use Rattle.pj_roster.specs.Dismissed.{causes_in, feeds_in, no_causes, rows_in}

-- ---- before

-- the hub runs a plan of these nodes
pub record RunsPlan (hub : HubPlan) (nodes : List PlanNode) : Type 0 where
  pub plan : RunPlan
  pub of_nodes : plan.nodes ≡ nodes
  pub runs : hub.nodes ≡ nodes_of plan

-- there is a feed for each stream of these nodes, and nothing was taken of it
pub record AreNewFeeds (nodes : List PlanNode) (feeds : List FeedState) : Type 0 where
  pub each : AreFeeds 0 (streams_in nodes) feeds
  pub are_new : AreNew feeds

-- assigned duties may begin over new feeds of a sound plan
abbrev pub RostersBegin : Type 0 → Type 0
RostersBegin S =
    (hub : HubPlan) (nodes : List PlanNode) → IsSoundPlan nodes → RunsPlan hub nodes → (feeds : List FeedState) → AreNewFeeds nodes feeds
    → (keep : Bool) (duties : List (Duty S)) → AreAssigned nodes keep feeds duties → MayBeginFrom hub 0 duties

-- ---- after

-- a feeder on this seat took the feed of this place from what it was to what was taken back
pub record FedAt {S : Type 0} (feeds : List FeedState) (duties news : List (Duty S)) (place : ℕ) : Type 0 where
  pub old : FeedState
  pub new : FeedState
  pub end : FeedEnd
  pub was : slice_get feeds place ≡ Some old
  pub is : slice_get (feeds_in news) place ≡ Some new
  pub did : Did (acts_of duties news) place (Fed old new end)

-- as many feeds were taken back as were handed out, each of its own feeder, and no more lists of rows; and no worker of these wrote
pub record FedEach {S : Type 0} (feeds : List FeedState) (duties news : List (Duty S)) : Type 0 where
  pub count : length (feeds_in news) ≡ length feeds
  pub rows : length (rows_in news) ≤ length feeds
  pub each : (place : ℕ) → place < length feeds → FedAt feeds duties news place
  pub none_writes : OfEach (acts_of duties news) (λ act. is_writer act ≡ false)

-- where each is the same duty still
abbrev pub RostersFeed : Type 0 → Type 0
RostersFeed S =
    (hub : HubPlan) (nodes : List PlanNode) (keep : Bool) (feeds : List FeedState) (duties news : List (Duty S))
    → AreAssigned nodes keep feeds duties → AllZip (IsSameDuty hub) duties news → FedEach feeds duties news

-- all rows that are accepted of a feed's file
abbrev pub rows_accepted : HubPlan → FeedState → List (List Value)
rows_accepted hub feed = rows_of (all_of hub feed)

-- these of each feed, where rows are kept
abbrev pub rows_kept : HubPlan → Bool → List FeedState → List (List (List Value))
rows_kept hub true feeds = map (rows_accepted hub) feeds
rows_kept hub false feeds = []

-- where files tell their bytes and every worker did all of its duty, all rows that were accepted were kept, where they were asked for
abbrev pub RostersKeep : Type 0 → Type 0
RostersKeep S =
    (hub : HubPlan) (nodes : List PlanNode) (keep : Bool) (feeds : List FeedState) (duties news : List (Duty S)) → AreAssigned nodes keep feeds duties
    → AllZip (IsSameDuty hub) duties news → AllTold feeds → AllWhole (acts_of duties news) → rows_in news ≡ rows_kept hub keep (feeds_in news)

-- where nothing is counted against the run, no worker halted it or was told a stop
abbrev pub RostersTell : Type 0 → Type 0
RostersTell S =
    (duties news : List (Duty S)) → causes_in news ≡ no_causes → OfEach (acts_of duties news) (λ act. (is_fault act ≡ false) × (stop_told act ≡ None))
