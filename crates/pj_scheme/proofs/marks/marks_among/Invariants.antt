use Rattle.std.proofs.Common.{◌≡◌, drop}
use Rattle.pj_scheme.specs.Derived.{each_marked, mark_at, marks_among}
use Rattle.pj_scheme.proofs.marks.marks_among.Given as goal

abbrev pub invariant-loop-column : goal.invariant-loop-column
invariant-loop-column l = marks_among l.scheme l.other ≡ each_marked (mark_at l.other) l.column (drop l.column l.scheme)
