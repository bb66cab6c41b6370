use Rattle.std.proofs.Common.{◌≡◌, drop}
use Rattle.pj_plan.specs.Nodes.{input_from, inputs_of}
use Rattle.pj_plan.proofs.links.input_from.Given as goal

abbrev pub invariant-loop-place : goal.invariant-loop-place
invariant-loop-place l = input_from l.at 0 (inputs_of l.node) l.number ≡ input_from l.at l.place (drop l.place (inputs_of l.node)) l.number
