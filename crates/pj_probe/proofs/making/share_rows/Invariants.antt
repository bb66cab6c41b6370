use Rattle.std.proofs.Common.{◌≡◌, take}
use Rattle.pj_probe.proofs.making.share_rows.Given as goal

abbrev pub invariant-loop-at : goal.invariant-loop-at
invariant-loop-at l = l.copy ≡ take l.at l.rows
