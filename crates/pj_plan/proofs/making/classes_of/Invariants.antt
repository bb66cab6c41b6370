use Rattle.std.proofs.Common.{◌≡◌, ◌++◌, drop, map}
use Rattle.pj_plan.specs.Made.{class_of}
use Rattle.pj_plan.proofs.making.classes_of.Given as goal

abbrev pub invariant-loop-class : goal.invariant-loop-class
invariant-loop-class l = l.made ++ map (class_of l.schemas) (drop l.class-index l.classes) ≡ map (class_of l.schemas) l.classes
