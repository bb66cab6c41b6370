use Rattle.std.proofs.Common.{subst}
use Rattle.pj_operator.specs.Operators.{IsOrderly}
use Rattle.pj_operator.proofs.Joins.{gave_orderly}
use Rattle.pj_operator.proofs.operator.OperatorState.give.Goals as goal

pub returns-in-Some-clause-orderly : goal.returns-in-Some-clause-orderly
returns-in-Some-clause-orderly c = λ o. gave_orderly c.in-Some.join.now c.give.new.self c.args.probe.ticket c.give.ensures.gives (subst IsOrderly c.in-Some.ensures.join o)
