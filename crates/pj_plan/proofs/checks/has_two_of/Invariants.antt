use Rattle.std.proofs.Common.{◌≡◌, ◌+◌, ◌≤◌, drop, filter, length}
use Rattle.pj_plan.specs.Faults.{has_column}
use Rattle.pj_plan.proofs.checks.has_two_of.Given as goal

abbrev pub invariant-loop-name : goal.invariant-loop-name
invariant-loop-name l = (length (filter (has_column l.columns) l.class) ≡ l.count + length (filter (has_column l.columns) (drop l.name-index l.class))) × (l.count ≤ l.name-index)
