use Rattle.pj_test_scripts.proofs.Replays.{punct_comes}
use Rattle.pj_test_scripts.proofs.hands.closes.Goals as goal

pub returns-in-Ok : goal.returns-in-Ok
returns-in-Ok c = λ t. punct_comes c.args.hand.now c.arrive.new.self c.args.stream c.args.punct c.requires.fits.0 c.requires.fits.1 c.requires.running c.in-Ok.ensures.ok
