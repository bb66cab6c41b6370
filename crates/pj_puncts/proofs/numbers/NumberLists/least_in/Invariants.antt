use Rattle.std.proofs.Common.{◌≡◌, None, drop}
use Rattle.pj_puncts.specs.Numbers.{told}
use Rattle.pj_puncts.specs.Alone.{least_in}
use Rattle.pj_puncts.proofs.numbers.NumberLists.least_in.Given as goal

abbrev pub invariant-loop-column : goal.invariant-loop-column
invariant-loop-column g l = least_in (told l.self) (g.C.Cells.cells l.cells) None l.self.columns ≡ least_in (told l.self) (g.C.Cells.cells l.cells) l.best (drop l.column-index l.self.columns)
