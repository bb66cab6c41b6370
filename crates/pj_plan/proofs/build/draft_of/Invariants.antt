use Rattle.std.proofs.Common.{drop}
use Rattle.pj_plan.proofs.Building.{IsBuilding}
use Rattle.pj_plan.proofs.build.draft_of.Given as goal

abbrev pub invariant-loop-stated : goal.invariant-loop-stated
invariant-loop-stated l = IsBuilding l.statements l.draft (drop l.stated-index l.statements)
