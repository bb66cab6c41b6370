use Rattle.std.proofs.Common.{◌≡◌, ◌++◌}
use Rattle.pj_make.specs.Inputs.{items_up_to}
use Rattle.pj_make.proofs.made.append_items.Given as goal

abbrev pub invariant-loop-before : goal.invariant-loop-before
invariant-loop-before l = l.text ≡ l.fn.text ++ items_up_to l.before
