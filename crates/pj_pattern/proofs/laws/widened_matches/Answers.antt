use Rattle.pj_pattern.proofs.Rows.{widened}
use Rattle.pj_pattern.proofs.laws.widened_matches.Goals as goal

pub returns : goal.returns
returns c = widened
