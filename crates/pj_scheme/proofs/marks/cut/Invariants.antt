use Rattle.std.proofs.Common.{◌≡◌, ◌++◌, drop, map}
use Rattle.pj_scheme.specs.Derived.{mark_at}
use Rattle.pj_scheme.proofs.marks.cut.Given as goal

abbrev pub invariant-loop-column : goal.invariant-loop-column
invariant-loop-column l = l.marks ++ map (mark_at l.scheme) (drop l.column-index l.columns) ≡ map (mark_at l.scheme) l.columns
