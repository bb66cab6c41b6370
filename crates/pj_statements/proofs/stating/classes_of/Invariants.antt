use Rattle.std.proofs.Common.{◌≡◌, ◌++◌, drop, map}
use Rattle.pj_plan.specs.Canonical.{class_words}
use Rattle.pj_statements.proofs.stating.classes_of.Given as goal

abbrev pub invariant-loop-class : goal.invariant-loop-class
invariant-loop-class l = l.words ++ map (class_words l.schemas) (drop l.class-index l.classes) ≡ map (class_words l.schemas) l.classes
