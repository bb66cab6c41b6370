use Rattle.pj_judge.proofs.Plans.{FirstAreJudged}
use Rattle.pj_judge.proofs.safety.judge.Given as goal

abbrev pub invariant-loop-node : goal.invariant-loop-node
invariant-loop-node l = FirstAreJudged l.plan.nodes l.node l.certs
