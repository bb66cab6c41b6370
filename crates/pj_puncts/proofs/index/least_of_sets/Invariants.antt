use Rattle.std.proofs.Common.{◌≡◌, None, drop}
use Rattle.pj_puncts.specs.Indexed.{least_of_sets}
use Rattle.pj_puncts.proofs.index.least_of_sets.Given as goal

abbrev pub invariant-loop-set : goal.invariant-loop-set
invariant-loop-set g l = least_of_sets l.kept (g.C.Cells.cells l.cells) None l.sets ≡ least_of_sets l.kept (g.C.Cells.cells l.cells) l.best (drop l.set-index l.sets)
