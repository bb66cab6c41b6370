use Rattle.std.proofs.Common.{◌≡◌, ◌+◌, drop}
use Rattle.pj_plan.specs.Made.{number_of}
use Rattle.pj_plan.proofs.names.number_of.Given as goal

abbrev pub invariant-loop-at : goal.invariant-loop-at
invariant-loop-at l = number_of l.nodes l.name ≡ l.at + number_of (drop l.at l.nodes) l.name
