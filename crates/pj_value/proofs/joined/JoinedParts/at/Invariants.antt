use Rattle.std.proofs.Common.{◌≡◌, ◌<◌, ◌-◌, length, drop}
use Rattle.std.specs.Prelude.{slice_get}
use Rattle.pj_value.specs.Parts.{flat_parts}
use Rattle.pj_value.proofs.joined.JoinedParts.at.Given as goal

abbrev pub invariant-loop-left : goal.invariant-loop-left
invariant-loop-left l = (slice_get (flat_parts l.parts) l.at ≡ slice_get (flat_parts (drop l.part l.parts)) l.left) × (l.left < length (flat_parts (drop l.part l.parts)))

abbrev pub decreases-loop-left : goal.decreases-loop-left
decreases-loop-left l = length l.parts - l.part
