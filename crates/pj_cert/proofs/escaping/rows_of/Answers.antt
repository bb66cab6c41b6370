use Rattle.std.proofs.Common.{List, sum, ap, arith}
use Rattle.pj_shape.specs.declared.columns.Column.{Column}
use Rattle.pj_shape.specs.Sound.{arities_of}
use Rattle.pj_graph.proofs.Steps.{few_columns}
use Rattle.pj_cert.proofs.escaping.rows_of.Goals as goal

pub row_of-requires : goal.row_of-requires
row_of-requires c =
    omega (arith, few_columns c.as_slice-schema-items.result.now c.loop-input.input c.schema-item.result c.loop-input-test.true c.schema-item.is, c.requires.few_columns, ap (λ (s : List (List Column)). sum (arities_of s)) c.as_slice-schema-items.ensures)
