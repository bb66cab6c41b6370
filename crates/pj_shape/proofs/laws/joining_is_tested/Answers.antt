use Rattle.pj_shape.proofs.Joining.{joined_where_tested}
use Rattle.pj_shape.proofs.laws.joining_is_tested.Goals as goal

pub returns : goal.returns
returns c = joined_where_tested
