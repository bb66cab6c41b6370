use Rattle.std.proofs.Common.{◌≡◌, ◌++◌, drop, map}
use Rattle.pj_plan_text.specs.Spelling.{each_behind, renamed_cell}
use Rattle.pj_plan_text.proofs.cell_texts.append_renamed.Given as goal

abbrev pub invariant-loop-column : goal.invariant-loop-column
invariant-loop-column l = l.out ++ each_behind 32 (map renamed_cell (drop l.column-index l.columns)) ≡ l.fn.out ++ each_behind 32 (map renamed_cell l.columns)
