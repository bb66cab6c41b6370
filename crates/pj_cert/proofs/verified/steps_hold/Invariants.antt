use Rattle.std.proofs.Common.{◌+◌, ◌≤◌, ◌≡◌, [], ◌∷◌, drop, length}
use Rattle.pj_graph.proofs.Saturations.{unknown}
use Rattle.pj_cert.specs.Tests.{steps_hold}
use Rattle.pj_cert.proofs.verified.steps_hold.Given as goal

abbrev pub invariant-loop-n : goal.invariant-loop-n
invariant-loop-n l =
    (length l.known.items + unknown l.known.items (length l.spec.inputs) ≤ length l.spec.inputs)
    × (steps_hold l.spec l.schemes (l.fn.input ∷ []) l.cert ≡ steps_hold l.spec l.schemes l.known.items (drop l.n l.cert))
