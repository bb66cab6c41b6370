use Rattle.std.proofs.Common.{◌≡◌, ◌⊎◌, [], true}
use Rattle.pj_feed.specs.Feeds.{AcceptsNone, HasPassed, work_of}
use Rattle.pj_intake.specs.Taking.{waits_for_read}
use Rattle.pj_report.specs.Written.{WritesNothing}
use Rattle.pj_run.proofs.feeding.next_of.Given as goal

abbrev pub invariant-lines : goal.invariant-lines
invariant-lines g l = record {
  passed : HasPassed l.fn.feed l.feed;
  accepts : AcceptsNone l.fn.feed l.feed;
  written : WritesNothing (g.K.Sink.state l.fn.out) (g.K.Sink.state l.out);
  handed_on : (l.feed.intake ≡ l.fn.feed.intake) ⊎ (waits_for_read l.fn.feed.intake ≡ true → (g.K.Sink.state l.out).held ≡ []);
}

abbrev pub decreases-lines : goal.decreases-lines
decreases-lines g l = work_of l.feed
