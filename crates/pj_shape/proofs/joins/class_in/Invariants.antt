use Rattle.std.proofs.Common.{◌≡◌, drop}
use Rattle.pj_shape.specs.Joining.{class_from}
use Rattle.pj_shape.proofs.joins.class_in.Given as goal

abbrev pub invariant-loop-n : goal.invariant-loop-n
invariant-loop-n l = class_from 0 l.classes l.at ≡ class_from l.n (drop l.n l.classes) l.at
