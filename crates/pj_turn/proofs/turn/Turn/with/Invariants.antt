use Rattle.std.proofs.Common.{[], ◌∷◌}
use Rattle.pj_turn.proofs.turn.Turn.with.Given as goal

abbrev pub ghosts-note : goal.ghosts-note
ghosts-note g a = record { entries = (g.A.Act.meaning a._act.now.value).entry a.seat.now.me.0.number a.seat.now.me.0.seen a._answer.now ∷ [] }
