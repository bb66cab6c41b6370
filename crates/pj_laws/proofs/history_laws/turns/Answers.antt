use Rattle.pj_laws.proofs.OneThreadAnswer.{streams-hold, turns-go-on, rounds-go-on}
use Rattle.pj_laws.proofs.history_laws.turns.Goals as goal

pub returns-clause-streams : goal.returns-clause-streams
returns-clause-streams c = streams-hold

pub returns-clause-turn_by_turn : goal.returns-clause-turn_by_turn
returns-clause-turn_by_turn c = turns-go-on

pub returns-clause-round_by_round : goal.returns-clause-round_by_round
returns-clause-round_by_round c = rounds-go-on
