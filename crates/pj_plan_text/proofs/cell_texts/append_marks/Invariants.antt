use Rattle.std.proofs.Common.{◌≡◌, ◌++◌, drop, map}
use Rattle.pj_plan_text.specs.Spelling.{each_behind, mark_cell}
use Rattle.pj_plan_text.proofs.cell_texts.append_marks.Given as goal

abbrev pub invariant-loop-mark : goal.invariant-loop-mark
invariant-loop-mark l = l.out ++ each_behind 32 (map mark_cell (drop l.mark-index l.marks)) ≡ l.fn.out ++ each_behind 32 (map mark_cell l.marks)
