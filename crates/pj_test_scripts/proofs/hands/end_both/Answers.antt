use Rattle.std.proofs.Common.{refl}
use Rattle.pj_test_scripts.proofs.Replays.{both_end}
use Rattle.pj_test_scripts.proofs.hands.end_both.Goals as goal

pub returns : goal.returns
returns c = λ t. both_end c.args.hand.now c.end.new.hand c.end-2.new.hand c.requires (c.if-not-end.ensures refl) (c.end-2.ensures t)
