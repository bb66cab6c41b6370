-- Steps of a feed behind lines that accept nothing.
use Rattle.std.proofs.Common.{◌≡◌, ◌∙◌, ◌⊎◌, ℕ, List, [], true, ap, arith, inl, inr}
use Rattle.pj_feed.specs.declared.feeds.Arrival.{Arrival}
use Rattle.pj_feed.specs.Feeds.{AcceptsNone, ComesBehind, FeedState, HasPassed}
use Rattle.pj_feed.proofs.AllFeeds.{same_then}
use Rattle.pj_intake.specs.Taking.{IntakeState, waits_for_read}

pub comes-then : (f g h : FeedState) (next : Arrival) → AcceptsNone f g → ComesBehind g h next → ComesBehind f h next
comes-then f g h next none comes = record { accepted = λ es had. comes.accepted es (none.accepted es had); still = comes.still }

pub none-then : (f g h : FeedState) → AcceptsNone f g → AcceptsNone g h → AcceptsNone f h
none-then f g h a b = record { accepted = λ es had. b.accepted es (a.accepted es had); still = b.still ∙ a.still }

pub passed-then : (f g h : FeedState) → HasPassed f g → HasPassed g h → HasPassed f h
passed-then f g h a b = record {
  fed = b.fed;
  same = same_then f g h a.same b.same;
  still = b.still ∙ a.still;
  count = b.count ∙ a.count;
  works = omega (arith, a.works, b.works);
}

-- what the sink held back was handed on, where the feed waited for a read at first
pub handed-then : (first here : IntakeState) (before now : List ℕ) → (here ≡ first) ⊎ (waits_for_read first ≡ true → before ≡ []) → (waits_for_read here ≡ true → now ≡ []) → (before ≡ [] → now ≡ []) → waits_for_read first ≡ true → now ≡ []
handed-then first here before now (inl same) handed none waits = handed (ap waits_for_read same ∙ waits)
handed-then first here before now (inr had) handed none waits = none (had waits)
