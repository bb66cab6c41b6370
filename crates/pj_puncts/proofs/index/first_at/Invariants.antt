use Rattle.std.proofs.Common.{◌≡◌, drop}
use Rattle.pj_puncts.specs.Indexed.{first_at}
use Rattle.pj_puncts.proofs.index.first_at.Given as goal

abbrev pub invariant-loop-at : goal.invariant-loop-at
invariant-loop-at g l = first_at l.kept (g.C.Cells.cells l.cells) l.places ≡ first_at l.kept (g.C.Cells.cells l.cells) (drop l.at-index l.places)
