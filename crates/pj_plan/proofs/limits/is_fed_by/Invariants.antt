use Rattle.std.proofs.Common.{◌≡◌, drop}
use Rattle.pj_value.specs.Lists.{has}
use Rattle.pj_plan.specs.Nodes.{inputs_of}
use Rattle.pj_plan.proofs.limits.is_fed_by.Given as goal

abbrev pub invariant-loop-at : goal.invariant-loop-at
invariant-loop-at l = has (inputs_of l.node) l.number ≡ has (drop l.at (inputs_of l.node)) l.number
