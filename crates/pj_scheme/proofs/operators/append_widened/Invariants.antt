use Rattle.std.proofs.Common.{◌≡◌, ◌++◌, drop, map}
use Rattle.pj_scheme.specs.Derived.{widened}
use Rattle.pj_scheme.proofs.operators.append_widened.Given as goal

abbrev pub invariant-loop-scheme : goal.invariant-loop-scheme
invariant-loop-scheme l = l.out ++ map (widened l.before l.after) (drop l.scheme-index l.schemes) ≡ l.fn.out ++ map (widened l.before l.after) l.schemes
