use Rattle.pj_intake.proofs.Calls.{call_gives, still_stands}
use Rattle.pj_intake.proofs.intake.Intake.next.Goals as goal

pub returns-in-None-clause-next : goal.returns-in-None-clause-next
returns-in-None-clause-next g c = λ running. rw (← c.self.view_is) (call_gives _ _ _ _ _ _ _ _ _ c.next_step-result.result c.next_step-result.ensures.judges)

pub invariant_of-self : goal.invariant_of-self
invariant_of-self g c = still_stands _ _ _ _ _ _ _ _ _ _ c.next_step-result.ensures.judges c.in-None.is c.stop_of-self-inside.ensures c.self.invariant
