use Rattle.pj_parallel.proofs.Stops.{stops-so}
use Rattle.pj_parallel.proofs.settling.settle_core.Goals as goal

pub returns-in-Err-clause-settled : goal.returns-in-Err-clause-settled
returns-in-Err-clause-settled c = stops-so _ c.args.core.now c.settle.new.self _ c.in-Err.stop c.requires.on c.in-Err.ensures.err c.drain.ensures.handed
