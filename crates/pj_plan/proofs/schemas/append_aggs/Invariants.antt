use Rattle.std.proofs.Common.{◌≡◌, ◌++◌, drop, map}
use Rattle.pj_plan.specs.Made.{agg_column}
use Rattle.pj_plan.proofs.schemas.append_aggs.Given as goal

abbrev pub invariant-loop-agg : goal.invariant-loop-agg
invariant-loop-agg l = l.out ++ map (agg_column l.input) (drop l.agg-index l.aggs) ≡ l.fn.out ++ map (agg_column l.input) l.aggs
