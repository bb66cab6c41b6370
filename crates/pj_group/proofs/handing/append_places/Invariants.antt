use Rattle.std.proofs.Common.{◌≡◌, ◌++◌, take}
use Rattle.pj_group.specs.Indexes.{closed_over}
use Rattle.pj_group.proofs.handing.append_places.Given as goal

abbrev pub invariant-loop-place : goal.invariant-loop-place
invariant-loop-place l = l.out ≡ l.fn.out ++ closed_over l.kept l.slots.entries (take l.place-index l.places)
