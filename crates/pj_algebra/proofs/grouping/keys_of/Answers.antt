use Rattle.std.proofs.Common.{ℕ, List, [], ◌∙◌, ap}
use Rattle.pj_events.specs.Operators.{keys_from, picked_cells}
use Rattle.pj_algebra.proofs.DistinctKeys.{keys_more}
use Rattle.pj_algebra.proofs.grouping.keys_of.Goals as goal

pub loop-row-preserved : goal.loop-row-preserved
loop-row-preserved c =
    keys_more c.args.spec.now c.args.rows.now c.loop-row.keys c.add_key.new.keys (keys_from [] c.args.spec.now c.args.rows.now) c.loop-row.row-index c.row-item.result c.in_ok-key.key c.loop-row-test.true c.row-item.is
    (c.in_ok-key.ensures ∙ ap (λ (columns : List ℕ). picked_cells columns c.row-item.result) c.as_slice.ensures) c.in_ok-add_key.ensures c.loop-row.invariant
