use Rattle.std.proofs.Common.{◌≡◌, ◌∙◌, length}
use Rattle.pj_puncts.proofs.Cellwise.{row_step}
use Rattle.pj_puncts.proofs.cells.RowCells.hash_value.Goals as goal

pub loop-column-preserved : goal.loop-column-preserved
loop-column-preserved c =
    let same : length c.args.marks.now ≡ length c.args.self.now = c.if-marks-len.false ∙ c.len.ensures in
    c.loop-column.invariant ∙ row_step c.loop-column.hash_value c.args.marks.now c.args.self.now c.loop-column.column c.with_cell-hash_value.result _ c.loop-column-test.true same c.get.ensures c.with_cell-hash_value.ensures
