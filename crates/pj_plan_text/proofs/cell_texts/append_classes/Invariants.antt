use Rattle.std.proofs.Common.{◌≡◌, ◌++◌, drop, map}
use Rattle.pj_plan_text.specs.Spelling.{each_behind, class_cell}
use Rattle.pj_plan_text.proofs.cell_texts.append_classes.Given as goal

abbrev pub invariant-loop-class : goal.invariant-loop-class
invariant-loop-class l = l.out ++ each_behind 32 (map class_cell (drop l.class-index l.classes)) ≡ l.fn.out ++ each_behind 32 (map class_cell l.classes)
