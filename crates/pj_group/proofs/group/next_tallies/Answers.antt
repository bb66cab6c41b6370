use Rattle.std.proofs.Common.{◌+◌, [], ◌∷◌, ap, length, length-append, arith}
use Rattle.std.proofs.lemmas.List.Elements.{All-push, All-same}
use Rattle.pj_events.specs.Operators.{Count}
use Rattle.pj_group.specs.Insides.{IsBounded}
use Rattle.pj_group.proofs.States.{next_by}
use Rattle.pj_group.proofs.group.next_tallies.Goals as goal

pub loop-at-preserved : goal.loop-at-preserved
loop-at-preserved c = record {
  made =
      next_by c.args.row.now c.args.aggs.now c.args.tallies.now c.loop-at.made c.push.new.self c.loop-at.at Count c.index-tallies-at.result c.in_ok-next.field-0 _ c.loop-at-test.true c.requires.states.each
      c.loop-at.invariant.made c.read.ensures c.index-tallies-at.is c.in_ok-next.ensures.is c.in_ok-push.ensures.ok;
  long = omega (arith, ap length c.in_ok-push.ensures.ok, length-append c.loop-at.made (c.in_ok-next.field-0 ∷ []));
  bounded =
      All-same (IsBounded (c.args.count + 1)) c.push.new.self _ c.in_ok-push.ensures.ok
      (All-push (IsBounded (c.args.count + 1)) c.loop-at.made c.in_ok-next.field-0 c.loop-at.invariant.bounded c.in_ok-next.ensures.bounded);
}
