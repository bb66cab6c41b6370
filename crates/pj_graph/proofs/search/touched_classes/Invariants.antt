use Rattle.std.proofs.Common.{◌≡◌, map, take}
use Rattle.pj_shape.specs.Sets.{touches}
use Rattle.pj_value.specs.Lists.{has}
use Rattle.pj_graph.proofs.search.touched_classes.Given as goal

abbrev pub invariant-loop-class : goal.invariant-loop-class
invariant-loop-class l = l.bound ≡ map (touches (has l.known)) (take l.class-index l.classes)
