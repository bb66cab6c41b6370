use Rattle.std.proofs.Common.{◌≡◌, ◌++◌, drop, map}
use Rattle.pj_plan.specs.Made.{renamed_column}
use Rattle.pj_plan.proofs.schemas.renamed_schema.Given as goal

abbrev pub invariant-loop-word : goal.invariant-loop-word
invariant-loop-word l = l.columns ++ map (renamed_column l.input) (drop l.word-index l.words) ≡ map (renamed_column l.input) l.words
