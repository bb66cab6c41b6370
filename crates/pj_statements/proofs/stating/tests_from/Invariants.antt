use Rattle.std.proofs.Common.{◌≡◌, ◌++◌, drop}
use Rattle.pj_plan.specs.Canonical.{tests_from}
use Rattle.pj_statements.proofs.stating.tests_from.Given as goal

abbrev pub invariant-loop-at : goal.invariant-loop-at
invariant-loop-at l = l.tests ++ tests_from (drop l.at l.columns) (drop l.at l.patterns) ≡ tests_from l.columns l.patterns
