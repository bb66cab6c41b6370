use Rattle.std.proofs.Common.{ap, ◌∙◌}
use Rattle.pj_core.specs.Cores.{CoreState}
use Rattle.pj_run.proofs.Refused.{made_over, stopped_over}
use Rattle.pj_run.proofs.TurnLaws.{stops_behind}
use Rattle.pj_run.proofs.turns.turn_core.Goals as goal

pub returns-in-Err-clause-plan : goal.returns-in-Err-clause-plan
returns-in-Err-clause-plan c = ap (λ (x : CoreState). x.plan) c.drain.ensures.left ∙ c.in-Err.ensures.plan

pub returns-in-Err-clause-turned : goal.returns-in-Err-clause-turned
returns-in-Err-clause-turned c = stops_behind _ _ _ _ c.in-Err.stop _ c.requires.on c.requires.drained c.in-Err.ensures.err c.drain.ensures.handed

pub returns-in-Ok-clause-over : goal.returns-in-Ok-clause-over
returns-in-Ok-clause-over c = made_over _ _ _ _ c.requires.drained c.in-Ok.ensures.ok

pub returns-in-Err-clause-over : goal.returns-in-Err-clause-over
returns-in-Err-clause-over c =
    stopped_over c.args.core.now c.enter.new.core c.drain.new.self _ c.in-Err.stop _ c.requires.on c.requires.drained c.in-Err.ensures.err c.drain.ensures.handed (ap (λ (x : CoreState). x.kept.stop) c.drain.ensures.left) c.drain.ensures.notes
