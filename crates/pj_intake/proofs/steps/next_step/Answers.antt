use Rattle.std.proofs.Common.{refl}
use Rattle.pj_intake.proofs.Judging.{none_judged, judged_stop, judged_as, open_on, spent_stays, none_is_no_end, stop_is_no_end, end_is}
use Rattle.pj_intake.proofs.steps.next_step.Goals as goal

pub loop-step-init : goal.loop-step-init
loop-step-init g c = (λ _ _. refl, none_judged _ _ _ _ c.requires.at_end)

pub judge_next-requires-clause-judged : goal.judge_next-requires-clause-judged
judge_next-requires-clause-judged g c = open_on _ _ _ _ _ _ _ c.loop-step.invariant.1 c.requires.judged

pub judge_next-requires-clause-at_end : goal.judge_next-requires-clause-at_end
judge_next-requires-clause-at_end g c = c.loop-step.invariant.1.at_end

pub returns-in_err-step-clause-judges : goal.returns-in_err-step-clause-judges
returns-in_err-step-clause-judges g c = judged_stop _ _ _ _ _ _ _ _ _ _ c.loop-step.invariant.1 c.in_err-step.field-0.0 _ c.from_residual.ensures.1 c.in_err-step.ensures.judges

pub returns-in-Some-clause-judges : goal.returns-in-Some-clause-judges
returns-in-Some-clause-judges g c = judged_as _ _ _ _ _ _ _ _ _ _ c.loop-step.invariant.1 _ _ c.in-Some.is c.in_ok-step.ensures.judges

pub loop-step-smaller : goal.loop-step-smaller
loop-step-smaller g c = c.in_ok-step.ensures.shorter c.in-None.is

pub loop-step-preserved : goal.loop-step-preserved
loop-step-preserved g c = (λ ended none. absurd (none_is_no_end _ _ refl c.in-None.is (spent_stays _ _ _ c.loop-step.invariant.0 c.in_ok-step.ensures.spent ended none)), judged_as _ _ _ _ _ _ _ _ _ _ c.loop-step.invariant.1 _ _ c.in-None.is c.in_ok-step.ensures.judges)

pub returns-in_err-step-clause-spent : goal.returns-in_err-step-clause-spent
returns-in_err-step-clause-spent g c = λ ended none. absurd (stop_is_no_end _ _ refl (spent_stays _ _ _ c.loop-step.invariant.0 c.in_err-step.ensures.spent ended none))

pub returns-in-Some-clause-spent : goal.returns-in-Some-clause-spent
returns-in-Some-clause-spent g c = λ ended none. end_is _ _ _ _ refl c.in-Some.is refl (spent_stays _ _ _ c.loop-step.invariant.0 c.in_ok-step.ensures.spent ended none)
