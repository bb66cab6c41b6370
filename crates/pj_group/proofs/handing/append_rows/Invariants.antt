use Rattle.std.proofs.Common.{◌≡◌, ◌++◌, take}
use Rattle.pj_group.specs.Slots.{open_groups}
use Rattle.pj_group.specs.Steps.{closed_rows}
use Rattle.pj_group.proofs.handing.append_rows.Given as goal

abbrev pub invariant-loop-at : goal.invariant-loop-at
invariant-loop-at l = l.out ≡ l.fn.out ++ closed_rows l.kept (open_groups (take l.at l.slots.entries))
