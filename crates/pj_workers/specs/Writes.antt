-- How the writer ends, and what it does with what its drains hand out.
use Rattle.std.specs.Prelude.{ℕ, ◌≡◌, List, ◌++◌, IsTrue}
use Rattle.pj_io.specs.Causes.{Rose}
use Rattle.pj_io.specs.States.{SinkState}
use Rattle.pj_plan.specs.declared.node.PlanNode.{PlanNode}
use Rattle.pj_events.specs.declared.events.Entry.{Entry}
use Rattle.pj_events.specs.declared.events.Out.{Out}
use Rattle.pj_events.specs.Outcomes.{drained_of, elements_out}
use Rattle.pj_laws.specs.Seats.{HubPlan}
use Rattle.pj_report.specs.declared.stops.WriteStop.{WriteStop}
use Rattle.pj_report.specs.declared.stops.WriteStop.TheVariants.{Failed, NoMemory as LineMemory}
use Rattle.pj_report.specs.declared.writer.ResultWriter.{ResultWriter}
use Rattle.pj_report.specs.Forms.{TakesMore, shown}
use Rattle.pj_report.specs.Written.{FrontOf, WholeLines, flat}
use Rattle.pj_workers.specs.Rounds.{FollowsWriting, IsRound}
use Rattle.pj_workers.specs.Ends.{Ending, IsHalt, IsOver, Made, ends_sweeping}
use Rattle.pj_workers.specs.declared.writing.WriteEnd.{WriteEnd}
use Rattle.pj_workers.specs.declared.writing.WriteEnd.TheVariants.{Over, WriteFault, NoMemory}

-- how the writer ends
abbrev pub IsWriteEnd : HubPlan → ℕ → WriteEnd → Ending → Type 0
IsWriteEnd hub seat Over ending = IsOver hub seat ends_sweeping ending
IsWriteEnd hub seat WriteFault ending = IsHalt seat (IsRound FollowsWriting seat) ending
IsWriteEnd hub seat NoMemory ending = IsHalt seat (IsRound FollowsWriting seat) ending

-- what a call of the writer made, and how it ended
abbrev pub Writes : HubPlan → ℕ → List Entry → List Entry → WriteEnd → Type 0
Writes hub seat before after end = Made seat (IsRound FollowsWriting seat) (IsWriteEnd hub seat end) before after

-- how it ends where a line was not written
abbrev pub write_end : WriteStop → WriteEnd
write_end Failed = WriteFault
write_end LineMemory = NoMemory

-- what the drains of the seat handed out in this history
abbrev pub drained_in : HubPlan → ℕ → List Entry → List Out
drained_in hub seat history = drained_of hub.trace hub.nodes history seat

-- what the drains of the seat handed out between what it had seen and what it has seen, of which this is told
pub record HandsOn (hub : HubPlan) (seat : ℕ) (before after : List Entry) (told : List Out → Type 0) : Type 0 where
  pub gained : List Out
  pub drains : drained_in hub seat after ≡ drained_in hub seat before ++ gained
  pub handled : told gained

-- What became of these outputs. At the end the writer has taken them all, and their lines were written, where the sink tells;
-- where the sink failed its faults rose, and a front of the bytes of these lines was; for want of memory whole first lines
abbrev pub IsWritten : WriteEnd → List PlanNode → ResultWriter → ResultWriter → SinkState → SinkState → List Out → Type 0
IsWritten Over nodes old new before after outs =
    TakesMore old new (elements_out outs) × (IsTrue after.told → after.written ≡ before.written ++ flat (shown old.form nodes outs))
IsWritten WriteFault nodes old new before after outs =
    Rose before.faults after.faults × (IsTrue after.told → FrontOf (flat (shown old.form nodes outs)) before.written after.written)
IsWritten NoMemory nodes old new before after outs = IsTrue after.told → WholeLines (shown old.form nodes outs) before.written after.written
