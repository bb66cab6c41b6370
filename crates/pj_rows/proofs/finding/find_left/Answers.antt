use Rattle.std.proofs.Common.{◌∙◌}
use Rattle.pj_rows.proofs.Spared.{all_gone}
use Rattle.pj_rows.proofs.finding.find_left.Goals as goal

pub returns-then-gone-len : goal.returns-then-gone-len
returns-then-gone-len c = all_gone c.args.state.now.rows c.args.gone.now c.args.punct.now c.requires.some (c.if-gone-len.true ∙ c.len.ensures.len)
