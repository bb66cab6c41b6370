use Rattle.std.proofs.Common.{◌≡◌, map, take}
use Rattle.pj_puncts.specs.Indexed.{is_constant}
use Rattle.pj_puncts.proofs.index.marks_of.Given as goal

abbrev pub invariant-loop-pattern : goal.invariant-loop-pattern
invariant-loop-pattern l = l.marks ≡ map is_constant (take l.pattern-index l.patterns)
