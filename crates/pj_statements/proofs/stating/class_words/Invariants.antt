use Rattle.std.proofs.Common.{◌≡◌, ◌++◌, drop, map}
use Rattle.pj_plan.specs.Canonical.{class_word}
use Rattle.pj_statements.proofs.stating.class_words.Given as goal

abbrev pub invariant-loop-at : goal.invariant-loop-at
invariant-loop-at l = l.words ++ map (class_word l.schemas) (drop l.at-index l.class) ≡ map (class_word l.schemas) l.class
