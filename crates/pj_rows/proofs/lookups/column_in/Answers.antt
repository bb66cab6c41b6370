use Rattle.pj_shape.proofs.Classes.{found_column}
use Rattle.pj_rows.proofs.lookups.column_in.Goals as goal

pub returns-then-at-input : goal.returns-then-at-input
returns-then-at-input c = found_column c.args.class.now c.loop-at.at-index (record { input = 0; column = 0 }) c.args.input c.loop-at-test.true c.if-at-input.true
