-- Workers on their seats.
use Rattle.std.specs.Prelude.{ℕ, ◌≡◌, ◌≤◌, List, [], Option, IsTrue}
use Rattle.atomic_table.specs.Seated.{TableId}
use Rattle.pj_io.specs.States.{SinkState}
use Rattle.pj_plan.specs.declared.node.PlanNode.{PlanNode}
use Rattle.pj_events.specs.declared.events.Entry.{Entry}
use Rattle.pj_laws.specs.Seats.{HubPlan}
use Rattle.pj_report.specs.declared.writer.ResultWriter.{ResultWriter}
use Rattle.pj_workers.specs.Writes.{HandsOn, IsWritten, Writes}
use Rattle.pj_workers.specs.declared.writing.WriteEnd.{WriteEnd}
use Rattle.pj_workers.specs.declared.writing.WriteEnd.TheVariants.{Over}
use Rattle.pj_hub.specs.declared.made.MadeWith.{MadeWith}
use Rattle.pj_crew_laws.specs.Acts.{HasActed}
use Rattle.pj_crew.specs.declared.duties.Duty.{Duty}
use Rattle.pj_crew.specs.Duties.{IsSameDuty, MayBegin, act_of}

-- the name that a hub and its seats carry
abbrev pub Name : Type 0
Name = TableId × Option MadeWith

-- what a contract sees of a seat: its name, its number and what it has seen
pub record SeatState : Type 0 where
  pub name : Name
  pub number : ℕ
  pub seen : List Entry

-- a worker beside the writer, on its seat
pub record TaskState (S : Type 0) : Type 0 where
  pub seat : SeatState
  pub duty : Duty S

-- the writer on its seat, with what became of the results, and how it ended
pub record WriterState : Type 0 where
  pub seat : SeatState
  pub results : ResultWriter
  pub end : WriteEnd

-- ---- before

-- the seat is one of the hub of this name, and has seen nothing
pub record IsFreshSeat (named : Name) (seat : SeatState) : Type 0 where
  pub name : seat.name ≡ named
  pub seen : seat.seen ≡ []

-- the worker may begin
pub record IsReady {S : Type 0} (named : Name) (hub : HubPlan) (task : TaskState S) : Type 0 where
  pub fresh : IsFreshSeat named task.seat
  pub may : MayBegin hub task.seat.number task.duty

-- ---- after

-- a seat keeps its name and its number
pub record IsSameSeat (old new : SeatState) : Type 0 where
  pub name : new.name ≡ old.name
  pub number : new.number ≡ old.number

-- the worker has done what its duty is, as its seat has seen
pub record HasWorked {S : Type 0} (hub : HubPlan) (old new : TaskState S) : Type 0 where
  pub seat : IsSameSeat old.seat new.seat
  pub acted : HasActed hub old.seat.number new.seat.seen (act_of old.duty new.duty)
  pub same : IsSameDuty hub old.duty new.duty

-- an output that was handed on is so again at the end; it may stop telling its bytes, and its faults do not fall
pub record HandsOver (end : WriteEnd) (before after : SinkState) : Type 0 where
  pub handed_on : end ≡ Over → before.held ≡ [] → after.held ≡ []
  pub told : IsTrue after.told → IsTrue before.told
  pub later : before.faults ≤ after.faults

-- the writer has written, and this became of its output
pub record HasWritten (hub : HubPlan) (nodes : List PlanNode) (old new : WriterState) (before after : SinkState) : Type 0 where
  pub seat : IsSameSeat old.seat new.seat
  pub acted : Writes hub old.seat.number [] new.seat.seen new.end
  pub wrote : HandsOn hub old.seat.number [] new.seat.seen (IsWritten new.end nodes old.results new.results before after)
  pub form : new.results.form ≡ old.results.form
  pub output : HandsOver new.end before after
