-- A turn of the stream that has it.
use Rattle.pj_plan.specs.declared.node.PlanNode.{PlanNode}
use Rattle.std.proofs.Common.{◌≡◌, ℕ, ◌+◌, ◌<◌, Bool, true, List, [], ◌∷◌, ◌++◌, length, drop, get_or, set, refl, ap, sym, ◌∙◌, subst, Some, inl, inr, IsTrue}
use Rattle.std.specs.List.{slice_get}
use Rattle.std.proofs.lemmas.Option.{slice_get_within, get_or_from_slice_get}
use Rattle.pj_pattern.specs.declared.element.Element.{Element}
use Rattle.pj_events.specs.OneThread.{Turn}
use Rattle.pj_feed.specs.declared.feeds.Arrival.{Arrival}
use Rattle.pj_feed.specs.declared.feeds.Arrival.TheVariants.{Brought, Closing}
use Rattle.pj_feed.specs.Feeds.{FeedState, all_accepted, count_of, IsFed, AreFeeds, AllTold, AllClosed, HasTurn, turn_in, feed_left, feeds_left, brought, closes}
use Rattle.pj_feed.proofs.AllFeeds.{one_of, told_at, closed_done}
use Rattle.pj_feed.proofs.Feeding.{turn_at, no_turn, turn_made_at}

-- the stream at the place that has the turn
pub record IsTurnAt (feeds : List FeedState) (place : ℕ) (feed : FeedState) : Type 0 where
  pub is : slice_get feeds place ≡ Some feed
  pub still : feed.is_open ≡ true
  pub there : place < length feeds

pub turn_here : (feeds : List FeedState) (at place : ℕ) (feed : FeedState) → HasTurn feeds at (Some place) → feed ≡ get_or feeds place feed → IsTurnAt feeds place feed
turn_here feeds at place feed (inl first) is =
    let same : first.0 ≡ feed = sym (get_or_from_slice_get feeds place first.0 feed first.2) ∙ sym is in
    subst (IsTurnAt feeds place) same (record { is = first.2; still = first.3; there = slice_get_within feeds place first.0 first.2 })
turn_here feeds at place feed (inr wrapped) is =
    let first = wrapped.1 in
    let same : first.0 ≡ feed = sym (get_or_from_slice_get feeds place first.0 feed first.2) ∙ sym is in
    subst (IsTurnAt feeds place) same (record { is = first.2; still = first.3; there = slice_get_within feeds place first.0 first.2 })

pub turn_fed : (streams : List PlanNode) (feeds : List FeedState) (place : ℕ) (feed : FeedState) → AreFeeds 0 streams feeds → IsTurnAt feeds place feed → IsFed feed
turn_fed streams feeds place feed f here = (one_of 0 streams feeds place feed f here.is).fed

-- the turn was made
pub turn_given : (streams : List PlanNode) (feeds : List FeedState) (at place : ℕ) (feed feed' : FeedState) (next : Arrival) → AreFeeds 0 streams feeds → AllTold feeds → HasTurn feeds at (Some place) → IsTurnAt feeds place feed
    → (IsTrue feed.source.told → feed_left streams feed ≡ turn_in streams next ∷ feed_left streams feed') → feeds_left streams feeds at ≡ turn_in streams next ∷ feeds_left streams (set feeds place feed') (place + 1)
turn_given streams feeds at place feed feed' next f told has here gave =
    turn_at streams feeds at place (closed_done streams 0 streams feeds f told) has
    ∙ turn_made_at streams feeds place feed feed' (turn_in streams next) here.is (gave (told_at feeds place feed told here.is))

pub nothing_given : (streams : List PlanNode) (feeds : List FeedState) (at : ℕ) → AreFeeds 0 streams feeds → AllTold feeds → AllClosed feeds → feeds_left streams feeds at ≡ []
nothing_given streams feeds at f told closed = no_turn streams feeds at (closed_done streams 0 streams feeds f told) closed

-- a stream whose closing is still to come has a turn left
pub record HasLeft (streams : List PlanNode) (feed : FeedState) : Type 0 where
  pub first : Turn
  pub rest : List Turn
  pub left : feed_left streams feed ≡ first ∷ rest
  pub mine : first.stream ≡ feed.stream

pub has_left : (streams : List PlanNode) (feed : FeedState) → feed.is_open ≡ true → HasLeft streams feed
has_left streams feed still = go (drop (count_of feed) (all_accepted feed)) (ap (λ (b : Bool). brought streams feed.stream (drop (count_of feed) (all_accepted feed)) ++ closes streams feed.stream b) still)
  where
    go : (es : List Element) → feed_left streams feed ≡ brought streams feed.stream es ++ closes streams feed.stream true → HasLeft streams feed
    go [] e = record { first = turn_in streams (Closing feed.stream); rest = []; left = e; mine = refl }
    go (x ∷ es) e = record { first = turn_in streams (Brought feed.stream x); rest = brought streams feed.stream es ++ closes streams feed.stream true; left = e; mine = refl }
