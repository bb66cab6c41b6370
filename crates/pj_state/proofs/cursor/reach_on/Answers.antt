use Rattle.std.proofs.Common.{◌+◌, sym, subst, arith}
use Rattle.pj_state.specs.Reaching.{AreBefore}
use Rattle.pj_state.proofs.Reaching.{before-on}
use Rattle.pj_state.proofs.cursor.reach_on.Goals as goal

pub loop-block-preserved : goal.loop-block-preserved
loop-block-preserved c = (
  subst (λ n. AreBefore c.args.blocks.now (c.loop-block.block + 1) (c.loop-block.before + n)) (sym c.len-len.ensures)
      (before-on c.args.blocks.now c.loop-block.block c.loop-block.before c.index-blocks-block.result c.loop-block-test.true c.index-blocks-block.is c.loop-block.invariant.0),
  omega (arith, c.loop-block.invariant.1, c.if-at-before.false),
)
