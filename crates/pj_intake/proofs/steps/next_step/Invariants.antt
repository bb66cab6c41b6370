use Rattle.std.proofs.Common.{◌≡◌, true, [], None}
use Rattle.pj_intake.specs.Judged.{JudgesOn, running, to_judge}
use Rattle.pj_intake.proofs.steps.next_step.Given as goal

abbrev pub invariant-loop-step : goal.invariant-loop-step
invariant-loop-step g l =
    (l.initial.lines.ended ≡ true → l.initial.lines.held ≡ [] → l.lines ≡ l.initial.lines)
    × JudgesOn (running l.schema l.initial.lines l.initial.seen) (running l.schema l.lines l.seen) (g.S.Source.state l.initial.source) (g.S.Source.state l.source) None None

abbrev pub decreases-loop-step : goal.decreases-loop-step
decreases-loop-step g l = to_judge l.lines
