use Rattle.std.proofs.Common.{◌≡◌, ◌++◌, drop}
use Rattle.pj_plan.specs.Canonical.{aggs_of}
use Rattle.pj_statements.proofs.stating.aggs_of.Given as goal

abbrev pub invariant-loop-at : goal.invariant-loop-at
invariant-loop-at l = l.named ++ aggs_of (drop l.at l.news) l.columns (drop l.at l.aggs) ≡ aggs_of l.news l.columns l.aggs
