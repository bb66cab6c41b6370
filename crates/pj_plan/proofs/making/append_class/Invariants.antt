use Rattle.std.proofs.Common.{◌≡◌, ◌++◌, drop}
use Rattle.pj_plan.specs.Made.{class_in}
use Rattle.pj_plan.proofs.making.append_class.Given as goal

abbrev pub invariant-loop-at : goal.invariant-loop-at
invariant-loop-at l = l.out ++ class_in l.input l.at (drop l.at l.columns) l.words ≡ l.fn.out ++ class_in l.input 0 l.columns l.words
