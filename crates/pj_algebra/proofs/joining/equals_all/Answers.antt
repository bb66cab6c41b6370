use Rattle.std.proofs.Common.{sym, ◌∙◌}
use Rattle.std.specs.Option.{option_copied}
use Rattle.pj_shape.specs.Joining.{cell_value, parts_on}
use Rattle.pj_algebra.proofs.Combinations.{equals_each}
use Rattle.pj_algebra.proofs.joining.equals_all.Goals as goal

pub returns : goal.returns
returns c = c.each_equals.ensures ∙ sym (equals_each (parts_on 0 c.args.rows.now) c.args.class.now (cell_value (option_copied c.args.cell)))
