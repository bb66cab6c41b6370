use Rattle.std.proofs.Common.{◌≡◌, ◌+◌, drop}
use Rattle.pj_puncts.specs.Numbers.{first_filled}
use Rattle.pj_puncts.proofs.numbers.first_filled.Given as goal

abbrev pub invariant-loop-column : goal.invariant-loop-column
invariant-loop-column l = first_filled l.patterns ≡ l.column + first_filled (drop l.column l.patterns)
