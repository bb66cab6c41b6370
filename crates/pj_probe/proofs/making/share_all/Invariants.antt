use Rattle.std.proofs.Common.{◌≡◌, take}
use Rattle.pj_probe.proofs.making.share_all.Given as goal

abbrev pub invariant-loop-list : goal.invariant-loop-list
invariant-loop-list l = l.copy ≡ take l.list-index l.lists
