use Rattle.std.proofs.Common.{None, take}
use Rattle.pj_probe.specs.Checks.{IsBelow}
use Rattle.pj_probe.proofs.checks.first_below.Given as goal

abbrev pub invariant-loop-at : goal.invariant-loop-at
invariant-loop-at l = IsBelow (take l.at-index l.class) l.limit None
