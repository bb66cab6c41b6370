use Rattle.std.proofs.Common.{◌≡◌, drop, length}
use Rattle.pj_scheme.specs.Derived.{derived_from, schemes_of}
use Rattle.pj_scheme.proofs.derive.derived.Given as goal

abbrev pub invariant-loop-n : goal.invariant-loop-n
invariant-loop-n l = (derived_from l.done (drop l.n l.plan.nodes) ≡ schemes_of l.plan.nodes) × (length l.done ≡ l.n)
