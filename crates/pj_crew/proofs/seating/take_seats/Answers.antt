use Rattle.std.proofs.Common.{arith, ◌≡◌, length, ◌∙◌}
use Rattle.pj_crew.proofs.Places.{seating_goes}
use Rattle.pj_crew.proofs.seating.take_seats.Goals as goal

pub loop-duty-preserved : goal.loop-duty-preserved
loop-duty-preserved g c =
    let same : length c.pop-in-Some.new.self.items ≡ length c.pop.new.self.items = grind (arith, c.loop-duty.invariant.0.each, c.in-Some.ensures.len, c.in-Some-pop.ensures.len) in (
      seating_goes _ _ _ _ _ _ _ _ _ _ c.loop-duty.invariant.0 c.in-Some-pop.ensures.items c.in-Some.ensures.items same c.push_reserved.ensures.items,
      grind (arith, c.loop-duty.invariant.1, c.in-Some.ensures.len, c.push_reserved.ensures.len, c.push_reserved.ensures.capacity),
      c.in-Some-pop.ensures.capacity ∙ c.loop-duty.invariant.2,
      c.in-Some.ensures.capacity ∙ c.loop-duty.invariant.3,
    )
