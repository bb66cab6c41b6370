use Rattle.std.proofs.Common.{◌≡◌, ◌++◌, drop, map}
use Rattle.pj_plan.specs.Canonical.{column_word}
use Rattle.pj_statements.proofs.stating.column_words.Given as goal

abbrev pub invariant-loop-column : goal.invariant-loop-column
invariant-loop-column l = l.words ++ map column_word (drop l.column-index l.columns) ≡ map column_word l.columns
