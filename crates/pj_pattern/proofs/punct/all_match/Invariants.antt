use Rattle.std.proofs.Common.{◌≡◌, drop}
use Rattle.pj_pattern.specs.Columns.{matches_row}
use Rattle.pj_pattern.proofs.punct.all_match.Given as goal

abbrev pub invariant-loop-i : goal.invariant-loop-i
invariant-loop-i l = matches_row l.patterns l.row ≡ matches_row (drop l.i l.patterns) (drop l.i l.row)
