use Rattle.std.proofs.Common.{◌≡◌, drop, map}
use Rattle.std.specs.List.{list_any}
use Rattle.pj_plan.specs.Faults.{has_no_column}
use Rattle.pj_plan.proofs.checks.old_unknown.Given as goal

abbrev pub invariant-loop-word : goal.invariant-loop-word
invariant-loop-word l = list_any (has_no_column l.columns) (map (λ column. column.old) l.words) ≡ list_any (has_no_column l.columns) (map (λ column. column.old) (drop l.word-index l.words))
