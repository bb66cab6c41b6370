use Rattle.std.proofs.Common.{◌≡◌, ◌++◌, drop, map}
use Rattle.pj_plan.specs.declared.statement.Statement.TheVariants.{Scheme}
use Rattle.pj_statements.proofs.stating.append_each_scheme.Given as goal

abbrev pub invariant-loop-scheme : goal.invariant-loop-scheme
invariant-loop-scheme l = l.out ++ map (Scheme l.name) (drop l.scheme-index l.schemes) ≡ l.fn.out ++ map (Scheme l.name) l.schemes
