use Rattle.std.proofs.Common.{◌≡◌, drop}
use Rattle.pj_pattern.specs.Columns.{others_wild}
use Rattle.pj_pattern.proofs.punct.others_are_wild.Given as goal

abbrev pub invariant-loop-at : goal.invariant-loop-at
invariant-loop-at l = others_wild l.columns 0 l.patterns ≡ others_wild l.columns l.at (drop l.at l.patterns)
