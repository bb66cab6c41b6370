use Rattle.std.proofs.Common.{List, take}
use Rattle.pj_value.specs.Lists.{In}
use Rattle.pj_events.specs.Join.{ClassCol}
use Rattle.pj_cover.specs.Routes.{IsFixed}
use Rattle.pj_cover.proofs.route.is_determined.Given as goal

abbrev pub invariant-loop-class : goal.invariant-loop-class
invariant-loop-class l = (class : List ClassCol) → In class (take l.class-index l.classes) → IsFixed l.known l.input class
