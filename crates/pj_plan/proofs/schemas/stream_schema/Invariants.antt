use Rattle.std.proofs.Common.{◌≡◌, ◌++◌, drop, map}
use Rattle.pj_plan.specs.Made.{stream_column}
use Rattle.pj_plan.proofs.schemas.stream_schema.Given as goal

abbrev pub invariant-loop-word : goal.invariant-loop-word
invariant-loop-word l = l.columns ++ map stream_column (drop l.word-index l.words) ≡ map stream_column l.words
