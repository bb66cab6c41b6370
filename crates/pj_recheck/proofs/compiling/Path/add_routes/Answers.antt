use Rattle.pj_recheck.proofs.compiling.Path.add_routes.Goals as goal

pub loop-entry-preserved : goal.loop-entry-preserved
loop-entry-preserved c = (
  c.in_ok-add_route.ensures.routes c.loop-entry.invariant.0,
  λ f. c.in_ok-add_route.ensures.fit (c.loop-entry.invariant.1 f),
  λ r h. c.in_ok-add_route.ensures.keeps r (c.loop-entry.invariant.2 r h),
)
