use Rattle.std.proofs.Common.{◌≡◌, ◌++◌, drop, filter}
use Rattle.pj_scheme.specs.Derived.{others_have, schemes_at}
use Rattle.pj_scheme.proofs.operators.append_common.Given as goal

abbrev pub invariant-loop-scheme : goal.invariant-loop-scheme
invariant-loop-scheme l =
    l.out ++ filter (others_have l.done l.inputs l.fn.input) (drop l.scheme-index (schemes_at l.done l.fn.input))
    ≡ l.fn.out ++ filter (others_have l.done l.inputs l.fn.input) (schemes_at l.done l.fn.input)
