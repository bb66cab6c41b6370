use Rattle.std.proofs.Common.{◌≡◌, drop}
use Rattle.std.specs.Prelude.{slice_get}
use Rattle.pj_state.specs.Stores.{flat}
use Rattle.pj_state.proofs.places.Places.nth.Given as goal

abbrev pub invariant-loop-block : goal.invariant-loop-block
invariant-loop-block l = slice_get (flat l.block-items) l.at ≡ slice_get (flat (drop l.block-index l.block-items)) l.left
