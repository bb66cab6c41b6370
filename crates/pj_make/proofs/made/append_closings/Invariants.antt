use Rattle.std.proofs.Common.{◌≡◌, ◌++◌}
use Rattle.pj_make.specs.Inputs.{closed_up_to}
use Rattle.pj_make.proofs.made.append_closings.Given as goal

abbrev pub invariant-loop-before : goal.invariant-loop-before
invariant-loop-before l = l.text ≡ l.fn.text ++ closed_up_to l.count l.before
