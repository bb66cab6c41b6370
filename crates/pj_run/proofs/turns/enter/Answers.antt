use Rattle.pj_run.proofs.TurnLaws.{brings_there, closes_there, turn_plan}
use Rattle.pj_run.proofs.turns.enter.Goals as goal

pub turn-requires-clause-there : goal.turn-requires-clause-there
turn-requires-clause-there c = brings_there c.args.core.now.plan.nodes c.args.next c.in-Brought.stream c.in-Brought.element c.in-Brought.is c.requires

pub closing_turn-requires : goal.closing_turn-requires
closing_turn-requires c = record { there = closes_there c.args.core.now.plan.nodes c.args.next c.in-Closing.stream c.in-Closing.is c.requires }

pub returns-in-Brought-clause-plan : goal.returns-in-Brought-clause-plan
returns-in-Brought-clause-plan c = turn_plan _ _ _ c.turn.result c.turn.ensures.ok c.turn.ensures.err

pub returns-in-Closing-clause-plan : goal.returns-in-Closing-clause-plan
returns-in-Closing-clause-plan c = turn_plan _ _ _ c.closing_turn.result c.closing_turn.ensures.ok c.closing_turn.ensures.err
