use Rattle.std.proofs.Common.{◌≡◌, drop}
use Rattle.pj_pattern.specs.Patterns.{matches_all}
use Rattle.pj_pattern.proofs.forms.matches_all.Given as goal

abbrev pub invariant-loop-value : goal.invariant-loop-value
invariant-loop-value l = matches_all l.form l.values ≡ matches_all l.form (drop l.value-index l.values)
