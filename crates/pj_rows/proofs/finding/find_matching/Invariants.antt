use Rattle.std.proofs.Common.{◌≡◌, false, take}
use Rattle.pj_rows.specs.Finding.{still_held}
use Rattle.pj_rows.proofs.finding.find_matching.Given as goal

abbrev pub invariant-loop-at : goal.invariant-loop-at
invariant-loop-at l = still_held (take l.at l.among) l.gone l.punct ≡ false
