use Rattle.std.proofs.Common.{◌≡◌, drop}
use Rattle.pj_plan.specs.Faults.{scheme_count}
use Rattle.pj_plan.proofs.limits.scheme_count.Given as goal

abbrev pub invariant-loop-node : goal.invariant-loop-node
invariant-loop-node l = scheme_count l.nodes l.name ≡ scheme_count (drop l.node-index l.nodes) l.name
