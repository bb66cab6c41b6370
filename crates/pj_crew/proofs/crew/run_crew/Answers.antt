use Rattle.std.proofs.Common.{arith, length, sym, ap, subst, ◌∙◌}
use Rattle.pj_hub.specs.Seated.{AreNewSeats}
use Rattle.pj_crew.proofs.crew.run_crew.Goals as goal

pub run_seated-requires-clause-seats : goal.run_seated-requires-clause-seats
run_seated-requires-clause-seats g c κs within = (
  ap length c.into_vec.ensures ∙ (c.in-Ok-new.ensures.seats.0 ∙ grind (arith, c.requires.few, c.len-workers.ensures)),
  subst (AreNewSeats c.in-Ok-new.hub) (sym c.into_vec.ensures) c.in-Ok-new.ensures.seats.1,
)
