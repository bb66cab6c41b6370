use Rattle.std.proofs.Common.{take}
use Rattle.pj_probe.specs.Checks.{Decide}
use Rattle.pj_probe.proofs.checks.checks_of.Given as goal

abbrev pub invariant-loop-class : goal.invariant-loop-class
invariant-loop-class l = Decide (take l.class-index l.classes) l.input l.checks
