use Rattle.std.proofs.Common.{◌∙◌, sym}
use Rattle.pj_rows.proofs.Ranged.{needs_among}
use Rattle.pj_rows.proofs.Indexed.{within}
use Rattle.pj_rows.proofs.ranges.stretch_in.Goals as goal

pub returns-in-Some-clause-indexed : goal.returns-in-Some-clause-indexed
returns-in-Some-clause-indexed c = within c.args.column c.args.state.now.columns (sym c.is_indexed.ensures ∙ c.if-not-is_indexed.false)

pub returns-in-Some-clause-needs : goal.returns-in-Some-clause-needs
returns-in-Some-clause-needs c = needs_among c.args.punct.now c.args.column c.at.result.now c.in-Some.numbers c.at.ensures c.in-Some.ensures
