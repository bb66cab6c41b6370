use Rattle.std.proofs.Common.{◌≡◌, ◌++◌, drop}
use Rattle.pj_plan_text.specs.Spelling.{each_behind}
use Rattle.pj_plan_text.proofs.cell_texts.append_names.Given as goal

abbrev pub invariant-loop-name : goal.invariant-loop-name
invariant-loop-name l = l.out ++ each_behind l.mark (drop l.name-index l.names) ≡ l.fn.out ++ each_behind l.mark l.names
