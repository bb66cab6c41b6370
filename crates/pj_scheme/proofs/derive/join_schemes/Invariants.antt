use Rattle.std.proofs.Common.{◌≡◌, ◌++◌, drop}
use Rattle.pj_plan.specs.Nodes.{inputs_of}
use Rattle.pj_scheme.specs.Derived.{inputs_schemes}
use Rattle.pj_scheme.proofs.derive.join_schemes.Given as goal

abbrev pub invariant-loop-at : goal.invariant-loop-at
invariant-loop-at l = l.schemes ++ inputs_schemes l.all (drop l.at (inputs_of l.node)) ≡ inputs_schemes l.all (inputs_of l.node)
