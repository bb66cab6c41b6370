use Rattle.std.proofs.Common.{◌≡◌, ◌++◌, drop, flat_map, filter}
use Rattle.pj_scheme.specs.Derived.{others_have, schemes_at, united}
use Rattle.pj_scheme.proofs.operators.united.Given as goal

abbrev pub invariant-loop-input : goal.invariant-loop-input
invariant-loop-input l =
    l.schemes ++ flat_map (λ input. filter (others_have l.done l.inputs input) (schemes_at l.done input)) (drop l.input-index l.inputs) ≡ united l.done l.inputs
