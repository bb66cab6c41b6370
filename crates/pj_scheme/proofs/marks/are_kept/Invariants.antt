use Rattle.std.proofs.Common.{◌≡◌, drop}
use Rattle.pj_scheme.specs.Derived.{each_marked, are_kept}
use Rattle.pj_value.specs.Lists.{has}
use Rattle.pj_scheme.proofs.marks.are_kept.Given as goal

abbrev pub invariant-loop-column : goal.invariant-loop-column
invariant-loop-column l = are_kept l.columns l.scheme ≡ each_marked (has l.columns) l.column (drop l.column l.scheme)
