use Rattle.pj_test_scripts.proofs.Replays.{row_comes}
use Rattle.pj_test_scripts.proofs.hands.comes.Goals as goal

pub returns-in-Ok : goal.returns-in-Ok
returns-in-Ok c = λ t. row_comes c.args.hand.now c.arrive.new.self c.args.stream c.args.row c.requires.fits.0 c.requires.fits.1 c.requires.running c.in-Ok.ensures.ok
