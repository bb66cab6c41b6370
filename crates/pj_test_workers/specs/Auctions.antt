-- The auction of the tests, as contracts of plans, of hubs and of feeds speak of it.
use Rattle.std.specs.Prelude.{ℕ, ◌≡◌, ◌<◌, true, List, length}
use Rattle.pj_shape.specs.declared.columns.Column.{Column}
use Rattle.pj_plan.specs.Nodes.{stream_columns, streams_in, streams_of}
use Rattle.pj_plan.specs.declared.node.PlanNode.{PlanNode}
use Rattle.pj_events.specs.History.{streams_of as streams_among}
use Rattle.pj_feed.specs.Feeds.{FeedState, IsFed, count_of}
use Rattle.pj_laws.specs.HistoryLaws.{schema_at}
use Rattle.pj_laws.specs.Seats.{HubPlan, IsInputOf}
use Rattle.pj_test_threads.specs.Auctions.{HasJoin}

-- two streams, and a join of two inputs
pub record IsAuctionPlan (nodes : List PlanNode) : Type 0 where
  pub two : length (streams_of nodes) ≡ 2
  pub join : HasJoin nodes 2

-- the hub is of the plan, whose streams have these columns there too
pub record IsAuction (nodes : List PlanNode) (hub : HubPlan) : Type 0 where
  pub plan : IsAuctionPlan nodes
  pub two : length (streams_among hub.nodes) ≡ 2
  pub columns : (stream : ℕ) → stream < 2 → schema_at hub.nodes stream ≡ stream_columns (streams_in nodes) stream
  pub first : IsInputOf hub.nodes 2 0
  pub second : IsInputOf hub.nodes 2 1

-- a feed of this stream, of which nothing was accepted yet
pub record IsNewFeed (stream : ℕ) (columns : List Column) (feed : FeedState) : Type 0 where
  pub number : feed.stream ≡ stream
  pub has_columns : feed.intake.columns ≡ columns
  pub still : feed.is_open ≡ true
  pub fed : IsFed feed
  pub none : count_of feed ≡ 0
