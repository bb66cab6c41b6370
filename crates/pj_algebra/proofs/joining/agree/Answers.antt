use Rattle.std.proofs.Common.{sym, ◌∙◌}
use Rattle.pj_shape.specs.Joining.{parts_on}
use Rattle.pj_algebra.proofs.Combinations.{agree_each}
use Rattle.pj_algebra.proofs.joining.agree.Goals as goal

pub returns : goal.returns
returns c = c.each_agrees.ensures ∙ sym (agree_each (parts_on 0 c.args.rows.now) c.args.class.now)
