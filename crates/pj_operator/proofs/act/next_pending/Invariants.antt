use Rattle.std.proofs.Common.{◌≡◌, drop}
use Rattle.pj_operator.specs.Acts.{first_pending}
use Rattle.pj_operator.proofs.act.next_pending.Given as goal

abbrev pub invariant-loop-operator : goal.invariant-loop-operator
invariant-loop-operator l = (l.number ≡ l.operator-index) × (first_pending l.number (drop l.operator-index l.operators) ≡ first_pending 0 l.operators)
