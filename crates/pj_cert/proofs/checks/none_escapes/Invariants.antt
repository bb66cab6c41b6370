use Rattle.std.proofs.Common.{◌≡◌, drop}
use Rattle.pj_cert.specs.Tests.{closed_from}
use Rattle.pj_cert.proofs.checks.none_escapes.Given as goal

abbrev pub invariant-loop-input : goal.invariant-loop-input
invariant-loop-input l = closed_from l.spec.classes l.reached 0 l.schemes ≡ closed_from l.spec.classes l.reached l.input (drop l.input l.schemes)
