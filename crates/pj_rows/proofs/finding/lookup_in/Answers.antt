use Rattle.std.proofs.Common.{◌∙◌, sym}
use Rattle.pj_rows.proofs.Looked.{constant-there}
use Rattle.pj_rows.proofs.Indexed.{indexed-in}
use Rattle.pj_rows.proofs.finding.lookup_in.Goals as goal

pub returns-in-Some : goal.returns-in-Some
returns-in-Some c = (
  indexed-in c.args.column c.args.state.now.columns (sym c.is_indexed.ensures ∙ c.if-not-is_indexed.false),
  constant-there c.args.punct.now c.args.column c.at.result.now c.in-Some.value.now c.at.ensures c.in-Some.ensures.is,
)
