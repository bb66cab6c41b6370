use Rattle.std.proofs.Common.{drop}
use Rattle.pj_operator.specs.Looks.{AreWith}
use Rattle.pj_operator.proofs.look.sums_of.Given as goal

abbrev pub invariant-loop-operator : goal.invariant-loop-operator
invariant-loop-operator l = AreWith l.sums (drop l.operator-index l.operators) l.operators
