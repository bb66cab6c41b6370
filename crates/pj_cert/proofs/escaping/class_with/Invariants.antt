use Rattle.std.proofs.Common.{◌≡◌, drop}
use Rattle.pj_cert.specs.Escaping.{class_with}
use Rattle.pj_cert.proofs.escaping.class_with.Given as goal

abbrev pub invariant-loop-class : goal.invariant-loop-class
invariant-loop-class l = class_with (drop l.class-index l.classes) l.fn.at ≡ class_with l.classes l.fn.at
