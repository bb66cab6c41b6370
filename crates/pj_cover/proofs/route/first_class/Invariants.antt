use Rattle.std.proofs.Common.{◌≡◌, drop}
use Rattle.pj_cover.specs.Asking.{first_class}
use Rattle.pj_cover.proofs.route.first_class.Given as goal

abbrev pub invariant-loop-class : goal.invariant-loop-class
invariant-loop-class l = first_class l.classes l.at ≡ first_class (drop l.class-index l.classes) l.at
