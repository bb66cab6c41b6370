use Rattle.std.proofs.Common.{◌≡◌, drop, flat_map}
use Rattle.std.specs.List.{list_any}
use Rattle.pj_plan.specs.Words.{agg_columns}
use Rattle.pj_plan.specs.Faults.{has_no_column}
use Rattle.pj_plan.proofs.checks.aggs_unknown.Given as goal

abbrev pub invariant-loop-agg : goal.invariant-loop-agg
invariant-loop-agg l = list_any (has_no_column l.columns) (flat_map (λ agg. agg_columns agg.agg) l.aggs) ≡ list_any (has_no_column l.columns) (flat_map (λ agg. agg_columns agg.agg) (drop l.agg-index l.aggs))
