use Rattle.pj_operator.proofs.Changes.{frames-state}
use Rattle.pj_operator.proofs.act.give_at.Goals as goal

pub returns-clause-frames : goal.returns-clause-frames
returns-clause-frames c = frames-state c.args.operators.now c.join-place.result c.index-operators-place.result c.give.new.self c.give.ensures.kind
