use Rattle.std.proofs.Common.{◌≡◌, drop}
use Rattle.std.specs.Prelude.{slice_get}
use Rattle.pj_value.specs.Parts.{flat_parts}
use Rattle.pj_value.proofs.joined.JoinedParts.get.Given as goal

abbrev pub invariant-loop-part : goal.invariant-loop-part
invariant-loop-part l = slice_get (flat_parts l.part-items) l.at ≡ slice_get (flat_parts (drop l.part-index l.part-items)) l.left
