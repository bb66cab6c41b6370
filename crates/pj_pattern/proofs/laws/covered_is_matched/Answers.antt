use Rattle.pj_pattern.proofs.Covering.{covered, row_covered}
use Rattle.pj_pattern.proofs.laws.covered_is_matched.Goals as goal

pub returns : goal.returns
returns c = record { values = covered; rows = row_covered }
