use Rattle.std.proofs.Common.{◌≡◌, ◌++◌, drop}
use Rattle.pj_pattern.specs.Meets.{matched}
use Rattle.pj_pattern.proofs.meets.matched_values.Given as goal

abbrev pub invariant-loop-value : goal.invariant-loop-value
invariant-loop-value l = l.kept ++ matched l.form (drop l.value-index l.values) ≡ matched l.form l.values
