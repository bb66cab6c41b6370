-- How a replay ended.
use Rattle.std.proofs.Common.{◌≡◌, List, Result, Ok, Err, IfErr, ap, inl, inr}
use Rattle.std.specs.Prelude.{OnOk}
use Rattle.pj_io.specs.States.{SinkState}
use Rattle.pj_feed.specs.Feeds.{FeedState}
use Rattle.pj_hand.specs.Hands.{HandState}
use Rattle.pj_report.specs.Written.{Cut}
use Rattle.pj_run.specs.declared.stops.RunStop.{RunStop}
use Rattle.pj_run.specs.RunEnds.{TurnsCause}
use Rattle.pj_run.specs.Whole.{WroteLines, WroteWhole}
use Rattle.pj_run.proofs.Planned.{IsPlanned}
use Rattle.pj_run.proofs.Running.{turns_cause}
use Rattle.pj_run.proofs.WholeLaws.{leaves_then, wrote_then}
use Rattle.pj_script.specs.declared.step.ScriptStep.{ScriptStep}
use Rattle.pj_run.specs.Goes.{RunStart, StopCause}
use Rattle.pj_replay.specs.Playing.{Stage, StepEnds, StepSkipped}

-- ---- the plan stays

pub ends_plan : (stop : RunStop) (old new : Stage) (step : ScriptStep) → StepEnds stop old new step → new.hand.core.plan ≡ old.hand.core.plan
ends_plan stop old new step (inl k) = k.plan
ends_plan stop old new step (inr k) = k.plan

pub skips_plan : (old new : Stage) (step : ScriptStep) → StepSkipped old new step → new.hand.core.plan ≡ old.hand.core.plan
skips_plan old new step k = ap (λ (h : HandState). h.core.plan) k.hand

-- ---- why it stopped

pub why_ended : {T : Type 0} (result : Result T RunStop) (run : RunStart) (news : List FeedState) (sink : SinkState) → IsPlanned run.job → IfErr result (λ stop. StopCause stop run news sink)
    → IfErr result (λ stop. TurnsCause stop run.job run.feeds news run.sink sink)
why_ended (Ok x) run news sink planned why = tt
why_ended (Err stop) run news sink planned why = turns_cause stop run news sink planned why

-- ---- what holds where it did not

pub holds_on : {T E : Type 0} (result : Result T E) (fact : Type 0) → fact → OnOk result fact
holds_on (Ok x) fact holds = holds
holds_on (Err e) fact holds = tt

-- ---- whole lines, and then others

pub whole_then : {T E : Type 0} (cut : E → Cut) (first mid new : SinkState) (result : Result T E) → WroteLines first.written mid.written → WroteWhole cut mid new result → WroteWhole cut first new result
whole_then cut first mid new (Ok x) before after = wrote_then first.written mid.written new.written before after
whole_then cut first mid new (Err stop) before after = leaves_then (cut stop) first.written mid.written new.written before after
