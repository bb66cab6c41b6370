use Rattle.std.proofs.Common.{◌≡◌, false, take}
use Rattle.pj_rows.specs.Finding.{still_held}
use Rattle.pj_rows.proofs.finding.find_among_all.Given as goal

abbrev pub invariant-loop-at : goal.invariant-loop-at
invariant-loop-at l = (l.rows ≡ l.state.rows) × (still_held (take l.at l.state.rows) l.gone l.punct ≡ false)
