use Rattle.std.proofs.Common.{sym, ◌∙◌}
use Rattle.pj_statements.proofs.Walked.{last_is, last_none}
use Rattle.pj_statements.proofs.stating.last_name.Goals as goal

pub returns-in-Some : goal.returns-in-Some
returns-in-Some c = c.as_slice.ensures ∙ last_is c.args.nodes.now c.in-Some.node.now (sym c.in-Some.ensures.value)

pub returns-in-None : goal.returns-in-None
returns-in-None c = last_none c.args.nodes.now (sym c.in-None.ensures.value)
