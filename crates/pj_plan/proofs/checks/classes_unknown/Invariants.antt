use Rattle.std.proofs.Common.{◌≡◌, drop, flat_map}
use Rattle.std.specs.List.{list_any}
use Rattle.pj_plan.specs.Faults.{has_no_column}
use Rattle.pj_plan.proofs.checks.classes_unknown.Given as goal

abbrev pub invariant-loop-class : goal.invariant-loop-class
invariant-loop-class l = list_any (has_no_column l.columns) (flat_map (λ class. class) l.classes) ≡ list_any (has_no_column l.columns) (flat_map (λ class. class) (drop l.class-index l.classes))
