use Rattle.pj_test_scripts.proofs.Replays.{settle_runs}
use Rattle.pj_test_scripts.proofs.hands.settled.Goals as goal

pub returns-in-Ok : goal.returns-in-Ok
returns-in-Ok c = settle_runs c.args.hand.now c.settle.new.self c.in-Ok.outs c.in-Ok.ensures.ok c.requires
