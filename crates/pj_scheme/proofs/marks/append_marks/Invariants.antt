use Rattle.std.proofs.Common.{◌≡◌, ◌++◌, take}
use Rattle.pj_scheme.proofs.marks.append_marks.Given as goal

abbrev pub invariant-loop-column : goal.invariant-loop-column
invariant-loop-column l = l.marks ≡ l.fn.marks ++ take l.column l.scheme
