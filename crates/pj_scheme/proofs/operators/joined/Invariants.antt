use Rattle.std.proofs.Common.{◌≡◌, ◌++◌, ◌+◌, drop, sum}
use Rattle.pj_shape.specs.Sound.{arities_of}
use Rattle.pj_scheme.specs.Derived.{inputs_schemes, joined}
use Rattle.pj_scheme.proofs.operators.joined.Given as goal

abbrev pub invariant-loop-at : goal.invariant-loop-at
invariant-loop-at l =
    (l.before + sum (arities_of (drop l.at l.schemas)) ≡ sum (arities_of l.schemas))
    × (l.schemes ++ joined l.before (drop l.at l.schemas) (inputs_schemes l.done (drop l.at l.inputs)) ≡ joined 0 l.schemas (inputs_schemes l.done l.inputs))
