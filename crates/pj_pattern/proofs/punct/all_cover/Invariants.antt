use Rattle.std.proofs.Common.{◌≡◌, drop}
use Rattle.pj_pattern.specs.Columns.{covers_punct}
use Rattle.pj_pattern.proofs.punct.all_cover.Given as goal

abbrev pub invariant-loop-i : goal.invariant-loop-i
invariant-loop-i l = covers_punct l.patterns l.others ≡ covers_punct (drop l.i l.patterns) (drop l.i l.others)
