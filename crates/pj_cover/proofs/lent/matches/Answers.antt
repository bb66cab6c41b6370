use Rattle.std.proofs.Common.{◌∙◌, ap, ap₂}
use Rattle.pj_value.specs.Values.{value_eq}
use Rattle.pj_shape.specs.Joining.{cell_value}
use Rattle.pj_shape.proofs.CellValues.{cell_read}
use Rattle.pj_cover.proofs.lent.matches.Goals as goal

pub returns : goal.returns
returns c = c.same_cells.ensures ∙ ap₂ value_eq (cell_read c.args.next.now.row c.args.link.column _ c.get.ensures) (ap cell_value c.cell_from.ensures)
