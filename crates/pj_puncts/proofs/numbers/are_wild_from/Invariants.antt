use Rattle.std.proofs.Common.{◌≡◌, drop}
use Rattle.pj_puncts.specs.Numbers.{are_wild}
use Rattle.pj_puncts.proofs.numbers.are_wild_from.Given as goal

abbrev pub invariant-loop-column : goal.invariant-loop-column
invariant-loop-column l = are_wild (drop l.from l.patterns) ≡ are_wild (drop l.column l.patterns)
