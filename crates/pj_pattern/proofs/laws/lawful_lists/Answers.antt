use Rattle.pj_pattern.proofs.Lawful.{lawful_where}
use Rattle.pj_pattern.proofs.laws.lawful_lists.Goals as goal

pub returns : goal.returns
returns c = lawful_where
