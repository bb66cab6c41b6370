use Rattle.std.proofs.Common.{◌≡◌, take}
use Rattle.pj_value.proofs.copies.copy_items.Given as goal

abbrev pub invariant-loop-item : goal.invariant-loop-item
invariant-loop-item g l = l.copy ≡ take l.item-index l.items
