use Rattle.std.proofs.Common.{◌≡◌, map, take}
use Rattle.pj_pattern.specs.declared.pattern.Form.TheVariants.{Constant}
use Rattle.pj_group.proofs.keys.Key.of_constants.Given as goal

abbrev pub invariant-loop-pattern : goal.invariant-loop-pattern
invariant-loop-pattern l = map Constant l.values ≡ take l.pattern-index l.punct
