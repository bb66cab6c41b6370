use Rattle.std.proofs.Common.{◌≡◌, ◌++◌, drop}
use Rattle.pj_scheme.specs.Derived.{projected}
use Rattle.pj_scheme.proofs.operators.projected.Given as goal

abbrev pub invariant-loop-scheme : goal.invariant-loop-scheme
invariant-loop-scheme l = l.kept ++ projected l.columns (drop l.scheme-index l.schemes) ≡ projected l.columns l.schemes
