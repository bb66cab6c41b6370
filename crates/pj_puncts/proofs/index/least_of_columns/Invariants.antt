use Rattle.std.proofs.Common.{ℕ, Option, drop}
use Rattle.pj_puncts.specs.Indexed.{IsLeastOfColumns}
use Rattle.pj_puncts.proofs.index.least_of_columns.Given as goal

abbrev pub invariant-loop-column : goal.invariant-loop-column
invariant-loop-column g l =
    (result : Option ℕ) → IsLeastOfColumns l.kept (g.C.Cells.cells l.cells) l.lesser (drop l.column-index l.columns) result
    → IsLeastOfColumns l.kept (g.C.Cells.cells l.cells) l.fn.best l.columns result
