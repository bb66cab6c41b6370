use Rattle.std.proofs.Common.{◌≡◌, drop}
use Rattle.pj_group.specs.Indexes.{shut_over}
use Rattle.pj_group.proofs.places.close_places.Given as goal

abbrev pub invariant-loop-place : goal.invariant-loop-place
invariant-loop-place l = shut_over l.kept l.fn.slots.entries l.places ≡ shut_over l.kept l.slots.entries (drop l.place-index l.places)
