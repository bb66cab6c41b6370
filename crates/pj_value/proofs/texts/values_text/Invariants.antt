use Rattle.std.proofs.Common.{◌≡◌, ◌++◌, take}
use Rattle.pj_value.specs.Texts.{values_spelling}
use Rattle.pj_value.proofs.texts.values_text.Given as goal

abbrev pub invariant-loop-value : goal.invariant-loop-value
invariant-loop-value l = l.out ≡ l.fn.out ++ values_spelling (take l.value-index l.values)
