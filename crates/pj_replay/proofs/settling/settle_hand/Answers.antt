use Rattle.pj_replay.proofs.Settled.{refuses-some}
use Rattle.pj_replay.proofs.settling.settle_hand.Goals as goal

pub returns-in-Err-clause-settled : goal.returns-in-Err-clause-settled
returns-in-Err-clause-settled c = refuses-some _ c.args.hand.now c.settle.new.self c.in-Err.stop _ c.requires.on c.in-Err.ensures.err c.drain.ensures.handed
