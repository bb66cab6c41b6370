use Rattle.std.proofs.Common.{◌≡◌, [], map, take}
use Rattle.pj_shape.specs.Sound.{arities_of}
use Rattle.pj_events.specs.Join.{of_input, upto_from}
use Rattle.pj_join.specs.Sides.{AreAllShaped}
use Rattle.pj_rows.specs.Tuples.{tuples_in}
use Rattle.pj_join.proofs.starting.empty_states.Given as goal

abbrev pub invariant-loop-input : goal.invariant-loop-input
invariant-loop-input l = (tuples_in 0 l.row_states.items ≡ map (λ k. of_input k []) (upto_from 0 l.input)) × AreAllShaped (arities_of (take l.input l.spec.inputs)) l.row_states.items
