-- What rows that stay or go tell of punctuations.
use Rattle.std.proofs.Common.{ℕ, List, ◌≡◌}
use Rattle.pj_recheck.specs.Judging.{JudgeView, ripe_at, ripe_tickets, rows_at}
use Rattle.pj_rows.specs.Finding.{AreSome}

pub ripe_some : (j : JudgeView) (gone : List ℕ) → gone ≡ ripe_tickets j → AreSome (rows_at j) gone
ripe_some j gone is = (ripe_at j, is)
