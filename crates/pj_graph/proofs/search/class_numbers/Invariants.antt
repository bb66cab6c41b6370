use Rattle.std.proofs.Common.{◌≡◌, ◌++◌, drop}
use Rattle.pj_graph.specs.Search.{class_numbers}
use Rattle.pj_graph.proofs.search.class_numbers.Given as goal

abbrev pub invariant-loop-input : goal.invariant-loop-input
invariant-loop-input l = l.table ++ class_numbers l.spec.classes l.input (drop l.input l.spec.inputs) ≡ class_numbers l.spec.classes 0 l.spec.inputs
