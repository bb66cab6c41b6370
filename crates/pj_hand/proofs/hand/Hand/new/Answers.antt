use Rattle.std.proofs.Common.{refl}
use Rattle.pj_hand.specs.Hands.{HandState}
use Rattle.pj_hand.proofs.NewHand.{new-hand}
use Rattle.pj_hand.proofs.hand.Hand.new.Goals as goal

pub returns : goal.returns
returns c =
    let hand : HandState = record { core = c.args.core; taken = c.new.result.probes } in
    new-hand c.args.core c.requires.0 c.requires.1 hand c.requires.2 refl c.new.ensures
