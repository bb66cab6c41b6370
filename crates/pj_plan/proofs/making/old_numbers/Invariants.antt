use Rattle.std.proofs.Common.{◌≡◌, ◌++◌, drop, map}
use Rattle.pj_plan.specs.Made.{old_number}
use Rattle.pj_plan.proofs.making.old_numbers.Given as goal

abbrev pub invariant-loop-word : goal.invariant-loop-word
invariant-loop-word l = l.numbers ++ map (old_number l.columns) (drop l.word-index l.words) ≡ map (old_number l.columns) l.words
