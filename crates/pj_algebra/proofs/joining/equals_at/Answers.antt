use Rattle.std.proofs.Common.{sym, ◌∙◌}
use Rattle.std.specs.Option.{option_copied}
use Rattle.pj_shape.specs.Joining.{cell_value}
use Rattle.pj_algebra.proofs.Combinations.{no_row_equals, row_equals}
use Rattle.pj_algebra.proofs.joining.equals_at.Goals as goal

pub returns-in-None : goal.returns-in-None
returns-in-None c = sym (no_row_equals c.args.rows.now (cell_value (option_copied c.args.cell)) c.args.at c.in-None.ensures.lookup.3)

pub returns-in-Some : goal.returns-in-Some
returns-in-Some c =
    c.same_cells.ensures ∙ sym (row_equals c.args.rows.now (cell_value (option_copied c.args.cell)) c.args.at c.in-Some.row.now (option_copied c.get-in-Some.result) c.in-Some.ensures.lookup.3.0 c.in-Some.ensures.lookup.1 c.get-in-Some.ensures)
