use Rattle.std.proofs.Common.{◌≡◌, ◌++◌, drop, map}
use Rattle.pj_plan.specs.Made.{number_of}
use Rattle.pj_plan.proofs.making.numbers_of.Given as goal

abbrev pub invariant-loop-name : goal.invariant-loop-name
invariant-loop-name l = l.numbers ++ map (number_of l.nodes) (drop l.name-index l.names) ≡ map (number_of l.nodes) l.names
