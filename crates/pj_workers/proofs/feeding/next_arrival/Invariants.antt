use Rattle.pj_feed.specs.Feeds.{AcceptsNone, IsFed, IsSameFeed, work_of}
use Rattle.pj_workers.proofs.feeding.next_arrival.Given as goal

abbrev pub invariant-loop-next : goal.invariant-loop-next
invariant-loop-next g l = IsSameFeed l.initial.feed l.feed × AcceptsNone l.initial.feed l.feed × IsFed l.feed

abbrev pub decreases-loop-next : goal.decreases-loop-next
decreases-loop-next g l = work_of l.feed
