use Rattle.std.proofs.Common.{◌≡◌, length}
use Rattle.std.specs.Vec.Iter.{into_iter_items}
use Rattle.pj_operator.specs.Operators.{elements_left}
use Rattle.pj_operator.proofs.operator.next_element.Given as goal

abbrev pub invariant-loop-out : goal.invariant-loop-out
invariant-loop-out l = elements_left l.found ≡ elements_left l.initial.found

abbrev pub decreases-loop-out : goal.decreases-loop-out
decreases-loop-out l = length (into_iter_items l.found)
