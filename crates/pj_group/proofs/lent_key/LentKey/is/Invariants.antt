use Rattle.std.proofs.Common.{◌≡◌, take}
use Rattle.pj_group.proofs.lent_key.LentKey.is.Given as goal

abbrev pub invariant-loop-at : goal.invariant-loop-at
invariant-loop-at l = take l.at l.self ≡ take l.at l.key
