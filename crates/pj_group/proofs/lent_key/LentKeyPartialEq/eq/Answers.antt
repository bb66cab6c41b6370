use Rattle.pj_group.proofs.Equality.{same_is}
use Rattle.pj_group.proofs.lent_key.LentKeyPartialEq.eq.Goals as goal

pub returns : goal.returns
returns c = same_is c.same.result c.args.self.now c.args.other.now c.same.ensures
