use Rattle.std.proofs.Common.{◌≡◌, ◌++◌, drop}
use Rattle.pj_statements.proofs.stating.marks_of.Given as goal

abbrev pub invariant-loop-at : goal.invariant-loop-at
invariant-loop-at l = l.marks ++ drop l.at l.scheme ≡ l.scheme
