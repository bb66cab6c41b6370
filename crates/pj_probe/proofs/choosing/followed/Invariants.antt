use Rattle.std.proofs.Common.{take}
use Rattle.pj_probe.specs.Hops.{AreFound}
use Rattle.pj_probe.proofs.choosing.followed.Given as goal

abbrev pub invariant-loop-at : goal.invariant-loop-at
invariant-loop-at l = AreFound l.own l.sides (take l.at l.steps) l.lists.items
