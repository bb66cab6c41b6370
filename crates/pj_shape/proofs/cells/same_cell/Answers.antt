use Rattle.std.proofs.Common.{◌∙◌, ap₂}
use Rattle.pj_value.specs.Values.{value_eq}
use Rattle.pj_shape.proofs.CellValues.{cell_read}
use Rattle.pj_shape.proofs.cells.same_cell.Goals as goal

pub returns : goal.returns
returns c = c.same_cells.ensures ∙ ap₂ value_eq (cell_read c.args.a.now c.args.i _ c.get.ensures) (cell_read c.args.b.now c.args.j _ c.get-2.ensures)
