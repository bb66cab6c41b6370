use Rattle.std.proofs.Common.{◌≡◌, take, drop}
use Rattle.pj_line.specs.Lines.{pieces, onto}
use Rattle.pj_line.proofs.Fronts.{folded}
use Rattle.pj_line.proofs.splitting.first_piece.Given as goal

abbrev pub invariant-loop-at : goal.invariant-loop-at
invariant-loop-at l = pieces l.bytes ≡ folded onto (take l.at l.bytes) (pieces (drop l.at l.bytes))
