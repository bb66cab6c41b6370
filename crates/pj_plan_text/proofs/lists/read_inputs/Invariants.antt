use Rattle.std.proofs.Common.{◌≡◌, length}
use Rattle.pj_value.specs.Options.{with_front}
use Rattle.pj_plan_text.specs.Cuts.{all_of}
use Rattle.pj_plan_text.specs.CellWords.{name_of}
use Rattle.pj_plan_text.proofs.lists.read_inputs.Given as goal

abbrev pub invariant-loop-rest : goal.invariant-loop-rest
invariant-loop-rest l = all_of name_of l.fn.cells ≡ with_front l.inputs (all_of name_of l.rest)

abbrev pub decreases-loop-rest : goal.decreases-loop-rest
decreases-loop-rest l = length l.rest
