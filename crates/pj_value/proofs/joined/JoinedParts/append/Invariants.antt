use Rattle.std.proofs.Common.{◌≡◌, ◌++◌, take}
use Rattle.pj_value.specs.Parts.{flat_parts}
use Rattle.pj_value.proofs.joined.JoinedParts.append.Given as goal

abbrev pub invariant-loop-part : goal.invariant-loop-part
invariant-loop-part l = l.self ≡ l.fn.self ++ flat_parts (take l.part-index l.part-items)
