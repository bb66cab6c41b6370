use Rattle.std.proofs.Common.{Some}
use Rattle.pj_puncts.proofs.Columns.{of_cell}
use Rattle.pj_puncts.proofs.index.number_in_column.Goals as goal

pub returns-in-Some-first : goal.returns-in-Some-first
returns-in-Some-first g c =
    of_cell c.args.kept.now (g.C.Cells.cells c.args.cells.now) c.args.index.now c.in-Some.value.now (Some c.in-Some-first.at) c.number_at.result c.in-Some.ensures c.in-Some-first.ensures c.number_at.ensures
