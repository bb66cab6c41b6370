use Rattle.pj_group.proofs.FoundPlaces.{needs_constant}
use Rattle.pj_group.proofs.reach.constant_in.Goals as goal

pub returns-in_ok-of-in-Constant : goal.returns-in_ok-of-in-Constant
returns-in_ok-of-in-Constant c =
    needs_constant c.args.punct.now c.args.column c.at.result.now c.in-Constant.value.now c.in_ok-of-in-Constant.field-0 c.at.ensures c.in-Constant.ensures.shape c.in_ok-of-in-Constant.ensures
