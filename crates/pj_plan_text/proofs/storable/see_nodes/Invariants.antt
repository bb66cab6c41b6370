use Rattle.pj_plan_text.proofs.Stored.{NodesKept}
use Rattle.pj_plan_text.proofs.storable.see_nodes.Given as goal

abbrev pub invariant-loop-number : goal.invariant-loop-number
invariant-loop-number l = NodesKept l.plan.nodes l.number
