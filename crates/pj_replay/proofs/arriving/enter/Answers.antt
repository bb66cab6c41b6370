use Rattle.pj_run.proofs.TurnLaws.{brings_there, closes_there}
use Rattle.pj_replay.proofs.arriving.enter.Goals as goal

pub arrive-requires-clause-there : goal.arrive-requires-clause-there
arrive-requires-clause-there c = brings_there c.args.hand.now.core.plan.nodes c.args.next c.in-Brought.stream c.in-Brought.element c.in-Brought.is c.requires

pub close_stream-requires : goal.close_stream-requires
close_stream-requires c = record { there = closes_there c.args.hand.now.core.plan.nodes c.args.next c.in-Closing.stream c.in-Closing.is c.requires }
