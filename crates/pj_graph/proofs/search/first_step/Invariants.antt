use Rattle.std.proofs.Common.{◌≡◌, drop}
use Rattle.pj_graph.specs.Search.{step_from}
use Rattle.pj_graph.proofs.search.first_step.Given as goal

abbrev pub invariant-loop-input : goal.invariant-loop-input
invariant-loop-input l = step_from l.bound l.known 0 l.table l.schemes ≡ step_from l.bound l.known l.input (drop l.input l.table) (drop l.input l.schemes)
