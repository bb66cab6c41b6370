use Rattle.std.proofs.Common.{◌≡◌, ◌++◌, drop, map}
use Rattle.pj_plan_text.specs.Spelling.{each_behind, named_agg_cell}
use Rattle.pj_plan_text.proofs.cell_texts.append_aggs.Given as goal

abbrev pub invariant-loop-word : goal.invariant-loop-word
invariant-loop-word l = l.out ++ each_behind 32 (map named_agg_cell (drop l.word-index l.aggs)) ≡ l.fn.out ++ each_behind 32 (map named_agg_cell l.aggs)
