use Rattle.pj_group.proofs.Constants.{constants_all}
use Rattle.pj_group.proofs.keys.Key.of_constants.Goals as goal

pub returns : goal.returns
returns c =
    constants_all c.args.punct.now c.as_slice-pattern-items.result.now c.loop-pattern.pattern-index c.loop-pattern.values c.of.result c.as_slice-pattern-items.ensures c.loop-pattern-test.false c.loop-pattern.invariant
    c.of.ensures
