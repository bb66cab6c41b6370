use Rattle.pj_value.proofs.StorableValues.{storable_at}
use Rattle.pj_value.proofs.storable.see_columns.Goals as goal

pub loop-column-preserved : goal.loop-column-preserved
loop-column-preserved c = storable_at c.args.row.now c.loop-column.column c.at.result.now c.loop-column.invariant c.at.ensures c.see_value.ensures
