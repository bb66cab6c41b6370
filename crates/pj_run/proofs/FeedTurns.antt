-- A turn of the stream that has the next one, which was not had.
use Rattle.std.proofs.Common.{ℕ, List, Some, set, ◌∙◌, zero-add}
use Rattle.pj_io.specs.States.{SinkState}
use Rattle.pj_feed.specs.Feeds.{FeedState, HasTurn}
use Rattle.pj_feed.proofs.AllFeeds.{closed_done, get_set, one_of}
use Rattle.pj_feed.proofs.Feeding.{turn_at, turn_begins}
use Rattle.pj_feed.proofs.Turned.{IsTurnAt, has_left}
use Rattle.pj_run.specs.Feeding.{FeedEnds, StopsIn}
use Rattle.pj_run.specs.declared.stops.FeedWhy.{FeedWhy}

pub turn_stops : (feeds : List FeedState) (at place : ℕ) (feed feed' : FeedState) (before after : SinkState) (why : FeedWhy) → HasTurn feeds at (Some place) → IsTurnAt feeds place feed
    → FeedEnds feed feed' before after why → StopsIn feeds (set feeds place feed') at before after (record { stream = place; why = why })
turn_stops feeds at place feed feed' before after why has here stops = record {
  old = feed;
  new = feed';
  before = here.is;
  now = get_set feeds place feed feed' here.is;
  stops = stops;
  still = here.still;
  next = λ told streams f.
      let left = has_left streams feed here.still in
      let o = one_of 0 streams feeds place feed f here.is in (
        left.first,
        _,
        turn_at streams feeds at place (closed_done streams 0 streams feeds f told) has ∙ turn_begins streams feeds place feed left.first left.rest here.is left.left,
        left.mine ∙ (o.is_number ∙ zero-add place),
      );
}
