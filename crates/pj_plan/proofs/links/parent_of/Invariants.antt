use Rattle.std.proofs.Common.{◌≡◌, drop}
use Rattle.pj_plan.specs.Nodes.{parent_from}
use Rattle.pj_plan.proofs.links.parent_of.Given as goal

abbrev pub invariant-loop-at : goal.invariant-loop-at
invariant-loop-at l = parent_from 0 l.nodes l.fn.number ≡ parent_from l.at (drop l.at l.nodes) l.fn.number
