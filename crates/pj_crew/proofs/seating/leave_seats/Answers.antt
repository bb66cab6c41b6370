use Rattle.std.proofs.Common.{arith, sym, ◌∙◌}
use Rattle.pj_crew.proofs.Places.{leaving_goes}
use Rattle.pj_crew.proofs.seating.leave_seats.Goals as goal

pub loop-task-preserved : goal.loop-task-preserved
loop-task-preserved g c = (
  leaving_goes _ _ _ _ _ _ _ _ _ _ _ c.loop-task.invariant.0 c.in-Some.ensures.items (sym c.task.view_is) c.push_reserved.ensures.items c.push_reserved-in-Some.ensures.items,
  grind (arith, c.loop-task.invariant.1, c.in-Some.ensures.len, c.push_reserved.ensures.len, c.push_reserved.ensures.capacity),
  grind (arith, c.loop-task.invariant.2, c.in-Some.ensures.len, c.push_reserved-in-Some.ensures.len, c.push_reserved-in-Some.ensures.capacity),
  c.push_reserved.ensures.capacity ∙ c.loop-task.invariant.3,
)
