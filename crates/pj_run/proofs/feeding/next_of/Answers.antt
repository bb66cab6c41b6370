use Rattle.std.proofs.Common.{◌∙◌, Option, arith, inr, subst}
use Rattle.std.specs.Prelude.{IfNone, IfSome}
use Rattle.pj_feed.specs.declared.feeds.Arrival.{Arrival}
use Rattle.pj_feed.specs.Feeds.{AcceptsNone, ComesBehind, HasPassed}
use Rattle.pj_run.proofs.Stepped.{comes-then, handed-then, none-then, passed-then}
use Rattle.pj_run.proofs.feeding.next_of.Goals as goal

pub returns-in-Ok-Some-clause-comes : goal.returns-in-Ok-Some-clause-comes
returns-in-Ok-Some-clause-comes g c =
    comes-then c.args.feed.now c.lines.feed c.step.new.self c.in-Ok-Some.next c.lines.invariant.accepts
    (subst (λ (o : Option Arrival). IfSome o (ComesBehind c.lines.feed c.step.new.self)) c.in-Ok-Some.field-0-is c.in-Ok-Some.ensures.comes)

pub lines-preserved : goal.lines-preserved
lines-preserved g c = record {
  passed = passed-then c.args.feed.now c.lines.feed c.step.new.self c.lines.invariant.passed (subst (λ (o : Option Arrival). IfNone o (HasPassed c.lines.feed c.step.new.self)) c.in-Ok-None.field-0-is c.in-Ok-None.ensures.passed);
  accepts = none-then c.args.feed.now c.lines.feed c.step.new.self c.lines.invariant.accepts (subst (λ (o : Option Arrival). IfNone o (AcceptsNone c.lines.feed c.step.new.self)) c.in-Ok-None.field-0-is c.in-Ok-None.ensures.accepts);
  written = record {
    told = λ t. c.lines.invariant.written.told (c.in_ok-hand_on.ensures.written.told t);
    same = λ t. c.in_ok-hand_on.ensures.written.same t ∙ c.lines.invariant.written.same (c.in_ok-hand_on.ensures.written.told t);
    later = omega (arith, c.lines.invariant.written.later, c.in_ok-hand_on.ensures.written.later);
  };
  handed_on = inr (handed-then c.args.feed.now.intake c.lines.feed.intake (g.K.Sink.state c.lines.out).held (g.K.Sink.state c.hand_on.new.out).held c.lines.invariant.handed_on c.in_ok-hand_on.ensures.handed_on c.in_ok-hand_on.ensures.none);
}

pub returns-in-Ok-Some-clause-handed_on : goal.returns-in-Ok-Some-clause-handed_on
returns-in-Ok-Some-clause-handed_on g c =
    handed-then c.args.feed.now.intake c.lines.feed.intake (g.K.Sink.state c.lines.out).held (g.K.Sink.state c.hand_on.new.out).held c.lines.invariant.handed_on c.in_ok-hand_on.ensures.handed_on c.in_ok-hand_on.ensures.none
