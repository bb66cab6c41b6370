use Rattle.pj_group.proofs.Shutting.{cells_so_far}
use Rattle.pj_group.proofs.handing.append_cells.Goals as goal

pub loop-column-preserved : goal.loop-column-preserved
loop-column-preserved c =
    cells_so_far c.args.row.now c.loop-column.column c.at.result.now c.in_ok-copy.field-0 c.args.values.now c.loop-column.values c.push.new.self c.at.ensures c.in_ok-copy.ensures c.loop-column.invariant c.in_ok-push.ensures.ok
