use Rattle.std.proofs.Common.{◌≡◌, ◌≤◌}
use Rattle.pj_events.specs.Outcomes.{ended_of}
use Rattle.pj_core.proofs.running.count_ended.Given as goal

abbrev pub invariant-loop-stream : goal.invariant-loop-stream
invariant-loop-stream l = (l.ended ≡ ended_of l.stream l.closed) × (l.ended ≤ l.stream)
