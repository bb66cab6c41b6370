use Rattle.std.proofs.Common.{◌∙◌}
use Rattle.pj_puncts.proofs.Cellwise.{constants_step}
use Rattle.pj_puncts.proofs.cells.constants_hash.Goals as goal

pub loop-column-preserved : goal.loop-column-preserved
loop-column-preserved c =
    c.loop-column.invariant ∙ constants_step c.loop-column.hash_value c.args.marks.now c.args.patterns.now c.loop-column.column c.with_cell-hash_value.result _ _ c.loop-column-test.true c.if-marks-patterns.false c.index-patterns-column.is c.as_constant.ensures.value c.with_cell-hash_value.ensures
