use Rattle.std.proofs.Common.{subst, IfNone, IfSome}
use Rattle.pj_feed.specs.Feeds.{AcceptsNone, ComesBehind}
use Rattle.pj_workers.proofs.Passing.{accepts-then, comes-then, same-then, stops-behind}
use Rattle.pj_workers.proofs.feeding.next_arrival.Goals as goal

pub returns-in-Ok-Some-clause-comes : goal.returns-in-Ok-Some-clause-comes
returns-in-Ok-Some-clause-comes g c =
    comes-then c.args.feed.now c.loop-next.feed c.next_step.new.feed c.in-Ok-Some.next c.loop-next.invariant.1
    (subst (λ o. IfSome o (ComesBehind c.loop-next.feed c.next_step.new.feed)) c.in-Ok-Some.field-0-is c.in-Ok-Some.ensures.comes)

pub loop-next-preserved : goal.loop-next-preserved
loop-next-preserved g c = (
  same-then c.args.feed.now c.loop-next.feed c.next_step.new.feed c.loop-next.invariant.0 c.in-Ok-None.ensures.same,
  accepts-then c.args.feed.now c.loop-next.feed c.next_step.new.feed c.loop-next.invariant.1 (subst (λ o. IfNone o (AcceptsNone c.loop-next.feed c.next_step.new.feed)) c.in-Ok-None.field-0-is c.in-Ok-None.ensures.accepts),
  c.in-Ok-None.ensures.fed,
)

pub returns-in-Err-clause-stops : goal.returns-in-Err-clause-stops
returns-in-Err-clause-stops g c =
    stops-behind c.args.feed.now c.loop-next.feed c.next_step.new.feed c.in-Err.stop c.loop-next.invariant.0 c.loop-next.invariant.1 c.in-Err.ensures.same c.in-Err.ensures.stops
