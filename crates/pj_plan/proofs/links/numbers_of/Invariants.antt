use Rattle.std.proofs.Common.{◌≡◌, ◌++◌, drop}
use Rattle.pj_plan.specs.Nodes.{numbers_from}
use Rattle.pj_plan.specs.Sorts.{is_of}
use Rattle.pj_plan.proofs.links.numbers_of.Given as goal

abbrev pub invariant-loop-number : goal.invariant-loop-number
invariant-loop-number l = l.numbers ++ numbers_from (is_of l.sort) l.number (drop l.number l.nodes) ≡ numbers_from (is_of l.sort) 0 l.nodes
