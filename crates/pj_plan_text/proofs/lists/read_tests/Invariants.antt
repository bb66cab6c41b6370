use Rattle.std.proofs.Common.{◌≡◌, length}
use Rattle.pj_value.specs.Options.{with_front}
use Rattle.pj_plan_text.specs.Statements.{pairs_of}
use Rattle.pj_plan_text.proofs.lists.read_tests.Given as goal

abbrev pub invariant-loop-rest : goal.invariant-loop-rest
invariant-loop-rest l = pairs_of l.fn.cells ≡ with_front l.tests (pairs_of l.rest)

abbrev pub decreases-loop-rest : goal.decreases-loop-rest
decreases-loop-rest l = length l.rest
