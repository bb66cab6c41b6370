use Rattle.std.proofs.Common.{◌≡◌, ◌++◌, drop}
use Rattle.pj_line.specs.Cells.{bytes_in}
use Rattle.pj_plan_text.proofs.cuts.words_in.Given as goal

abbrev pub invariant-loop-at : goal.invariant-loop-at
invariant-loop-at l = l.words ++ bytes_in (drop l.at l.cells) ≡ bytes_in l.cells
