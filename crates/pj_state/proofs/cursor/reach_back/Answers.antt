use Rattle.std.proofs.Common.{◌≡◌, ◌+◌, ◌-◌, ◌≤◌, length, ap, sym, subst, arith}
use Rattle.pj_state.specs.Reaching.{AreBefore}
use Rattle.pj_state.proofs.Reaching.{before-back, item-is}
use Rattle.pj_state.proofs.cursor.reach_back.Goals as goal

passed : (c : goal.After-len-before) → (c.len-before.result ≤ c.loop-back.before) × AreBefore c.args.blocks.now (c.args.from.block - 1 - c.loop-back.back) (c.loop-back.before - c.len-before.result)
passed c =
    let b = c.index-blocks-block.result in
    let back : (length b ≤ c.loop-back.before) × AreBefore c.args.blocks.now (c.args.from.block - 1 - c.loop-back.back) (c.loop-back.before - length b) =
    before-back c.args.blocks.now (c.args.from.block - 1 - c.loop-back.back) (c.args.from.block - c.loop-back.back) c.loop-back.before b
    (omega (arith, c.loop-back-test.true)) (omega (arith, c.loop-back-test.true, c.requires.from.0)) c.index-blocks-block.is c.loop-back.invariant.0 in (
      omega (arith, back.0, c.len-before.ensures),
      subst (λ n. AreBefore c.args.blocks.now (c.args.from.block - 1 - c.loop-back.back) (c.loop-back.before - n)) (sym c.len-before.ensures) back.1,
    )

pub overflow_sub-before : goal.overflow_sub-before
overflow_sub-before c = (passed c).0

pub returns-then-before-at : goal.returns-then-before-at
returns-then-before-at c =
    let back = passed c.before in
    record {
      reached = back.1;
      there = omega (arith, c.loop-back-test.true, c.requires.from.0);
      from = c.if-before-at.true;
      to = omega (
        arith,
        back.0,
        c.len-before.ensures,
        c.loop-back.invariant.1,
        ap length (item-is c.args.blocks.now (c.args.from.block - 1 - c.loop-back.back) c.index-blocks-block.result (omega (arith, c.loop-back-test.true, c.requires.from.0)) c.index-blocks-block.is),
      );
    }

pub loop-back-preserved : goal.loop-back-preserved
loop-back-preserved c =
    let back = passed c.before in
    let same : c.args.from.block - 1 - c.loop-back.back ≡ c.args.from.block - (c.loop-back.back + 1) = omega arith in
    (subst (λ n. AreBefore c.args.blocks.now n (c.loop-back.before - c.len-before.result)) same back.1, c.if-before-at.false)
