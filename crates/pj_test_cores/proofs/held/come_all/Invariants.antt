use Rattle.pj_test_cores.specs.Holding.{IsFed}
use Rattle.pj_test_cores.proofs.held.come_all.Given as goal

abbrev pub invariant-loop-stream : goal.invariant-loop-stream
invariant-loop-stream l = IsFed l.core
