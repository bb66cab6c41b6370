use Rattle.std.proofs.Common.{◌≡◌, ◌++◌, take}
use Rattle.pj_value.specs.Parts.{flat_parts}
use Rattle.pj_value.specs.Texts.{values_spelling}
use Rattle.pj_value.proofs.joined.JoinedParts.spell.Given as goal

abbrev pub invariant-loop-part : goal.invariant-loop-part
invariant-loop-part l = l.out ≡ l.fn.out ++ values_spelling (flat_parts (take l.part-index l.part-items))
