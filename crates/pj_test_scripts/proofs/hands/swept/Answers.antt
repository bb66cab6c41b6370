use Rattle.pj_test_scripts.proofs.Replays.{sweep_runs}
use Rattle.pj_test_scripts.proofs.hands.swept.Goals as goal

pub returns-in-Ok : goal.returns-in-Ok
returns-in-Ok c = sweep_runs c.args.hand.now c.sweep.new.self c.args.join c.args.input c.in-Ok.ensures.ok c.requires
