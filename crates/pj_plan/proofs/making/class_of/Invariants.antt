use Rattle.std.proofs.Common.{◌≡◌, ◌++◌, drop}
use Rattle.pj_plan.specs.Made.{class_from}
use Rattle.pj_plan.proofs.making.class_of.Given as goal

abbrev pub invariant-loop-input : goal.invariant-loop-input
invariant-loop-input l = l.class ++ class_from l.input (drop l.input l.schemas) l.words ≡ class_from 0 l.schemas l.words
