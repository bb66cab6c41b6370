use Rattle.pj_probe.specs.Checks.{AreChecks}
use Rattle.pj_probe.proofs.checks.JoinChecks.new.Given as goal

abbrev pub invariant-loop-input : goal.invariant-loop-input
invariant-loop-input l = AreChecks l.classes l.input l.of_inputs
