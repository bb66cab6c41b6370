use Rattle.std.proofs.Common.{◌≡◌, ◌++◌, drop, map}
use Rattle.pj_plan.specs.Made.{named_agg}
use Rattle.pj_plan.proofs.making.aggs_of.Given as goal

abbrev pub invariant-loop-word : goal.invariant-loop-word
invariant-loop-word l = l.aggs ++ map (named_agg l.columns) (drop l.word-index l.words) ≡ map (named_agg l.columns) l.words
