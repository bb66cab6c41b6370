use Rattle.std.proofs.Common.{◌≡◌, drop}
use Rattle.pj_pattern.specs.Patterns.{all_of_kind}
use Rattle.pj_pattern.proofs.forms.all_fit.Given as goal

abbrev pub invariant-loop-value : goal.invariant-loop-value
invariant-loop-value l = all_of_kind l.kind l.values ≡ all_of_kind l.kind (drop l.value-index l.values)
