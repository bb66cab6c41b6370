use Rattle.pj_rows.proofs.Indexed.{within}
use Rattle.pj_recheck.proofs.compiling.lead_at.Goals as goal

pub returns-in-Some-clause-indexed : goal.returns-in-Some-clause-indexed
returns-in-Some-clause-indexed c = within c.in-Some.own c.args.side.now.state.columns c.in-Some.ensures.indexed
