use Rattle.std.proofs.Common.{IfSome, length}
use Rattle.pj_probe.specs.Routes.{IsOwnStep}
use Rattle.pj_probe.proofs.choosing.narrowest.Given as goal

abbrev pub invariant-loop-at : goal.invariant-loop-at
invariant-loop-at l = IfSome l.best (IsOwnStep (length l.sides) l.own.input l.route)
