use Rattle.pj_recheck.proofs.compiling.Path.add_backs.Goals as goal

pub loop-at-preserved : goal.loop-at-preserved
loop-at-preserved c = (
  c.in_ok-add_back.ensures.backs c.loop-at.invariant.0,
  λ f. c.in_ok-add_back.ensures.fit (c.loop-at.invariant.1 f),
  λ b h. c.in_ok-add_back.ensures.keeps b (c.loop-at.invariant.2 b h),
)
