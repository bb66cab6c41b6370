-- Why the next turn of a run was not had.
use Rattle.std.specs.Prelude.{◌≡◌, ℕ, true, List, ◌∷◌, Some, slice_get}
use Rattle.pj_io.specs.Causes.{Rose}
use Rattle.pj_io.specs.States.{SinkState}
use Rattle.pj_plan.specs.declared.node.PlanNode.{PlanNode}
use Rattle.pj_events.specs.OneThread.{Turn}
use Rattle.pj_feed.specs.Feeds.{FeedState, AllTold, AreFeeds, FeedStops, feeds_left}
use Rattle.pj_run.specs.declared.stops.FeedStop.{FeedStop}
use Rattle.pj_run.specs.declared.stops.FeedWhy.{FeedWhy}
use Rattle.pj_run.specs.declared.stops.FeedWhy.TheVariants.{Intake, WriteFailed as FlushFailed}

-- a stream was not read further, or what the sink holds back was to be handed on and its faults rose
abbrev pub FeedEnds : FeedState → FeedState → SinkState → SinkState → FeedWhy → Type 0
FeedEnds old new before after (Intake stop) = FeedStops old new stop
FeedEnds old new before after FlushFailed = Rose before.faults after.faults

-- the turn of one of these streams was the next, and could not be made
pub record StopsIn (olds news : List FeedState) (at : ℕ) (sink_before sink_now : SinkState) (stop : FeedStop) : Type 0 where
  pub old : FeedState
  pub new : FeedState
  pub before : slice_get olds stop.stream ≡ Some old
  pub now : slice_get news stop.stream ≡ Some new
  pub stops : FeedEnds old new sink_before sink_now stop.why
  pub still : old.is_open ≡ true
  pub next : AllTold olds → (streams : List PlanNode) → AreFeeds 0 streams olds
      → (turn : Turn) × (rest : List Turn) × (feeds_left streams olds at ≡ turn ∷ rest) × (turn.stream ≡ stop.stream)
