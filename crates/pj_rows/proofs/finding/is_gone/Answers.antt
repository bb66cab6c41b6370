use Rattle.std.proofs.Common.{◌∙◌}
use Rattle.pj_rows.proofs.Halved.{has_nothing, has_past, has_searched}
use Rattle.pj_rows.proofs.finding.is_gone.Goals as goal

pub returns-then-count-eq0 : goal.returns-then-count-eq0
returns-then-count-eq0 c = has_nothing c.args.gone.now c.args.ticket c.if-count-eq0.true

pub returns-then-gone-count : goal.returns-then-gone-count
returns-then-gone-count c = has_past c.args.gone.now c.args.ticket c.requires c.if-gone-count.true

pub returns : goal.returns
returns c = c.is_ok.ensures.value ∙ has_searched c.args.gone.now c.args.ticket c.binary_search.result c.requires c.binary_search.ensures.position
