use Rattle.pj_judge.specs.Asked.{AreCertified}
use Rattle.pj_judge.proofs.safety.judge_inputs.Given as goal

abbrev pub invariant-loop-input : goal.invariant-loop-input
invariant-loop-input l = AreCertified l.asked l.input l.certs
