-- What is written of what a crew leaves.
use Rattle.std.specs.Prelude.{◌≡◌, ℕ, if◌then◌else◌, Option, Some, None, Result, Ok, Err, IsTrue}
use Rattle.pj_io.specs.States.{SinkState}
use Rattle.pj_events.specs.declared.events.Stop.TheVariants.{Limit as CoreLimit, NoMemory as CoreMemory}
use Rattle.pj_core.specs.Cores.{CoreState}
use Rattle.pj_report.specs.declared.stops.WriteStop.{WriteStop}
use Rattle.pj_report.specs.declared.stops.WriteStop.TheVariants.{Failed, NoMemory as LineMemory}
use Rattle.pj_report.specs.declared.writer.Form.{Form}
use Rattle.pj_report.specs.declared.writer.ResultWriter.{ResultWriter}
use Rattle.pj_report.specs.Forms.{shown}
use Rattle.pj_report.specs.Written.{WritesBy, write_cut}
use Rattle.pj_run.specs.declared.stops.TurnStop.{TurnStop}
use Rattle.pj_run.specs.declared.stops.RunStop.{RunStop}
use Rattle.pj_run.specs.declared.stops.RunStop.TheVariants.{ReadFault, TooLarge, Limit, Refused, WriteFailed, NoMemory, Cut, CutRead, CutLarge, CutRefused}
use Rattle.pj_run.specs.Stops.{of_turn}
use Rattle.pj_workers.specs.declared.writing.WriteEnd.{WriteEnd}
use Rattle.pj_workers.specs.declared.writing.WriteEnd.TheVariants.{Over, WriteFault, NoMemory as WriteMemory}
use Rattle.pj_roster.specs.declared.causes.Causes.{Causes}
use Rattle.pj_parallel.specs.Settling.{SettlesInto, SettleStops}

-- none, or a stop that the workers of a crew tell
abbrev pub IsOfCrew : Option RunStop → Type 0
IsOfCrew None = Unit {0}
IsOfCrew (Some (ReadFault stream)) = Unit {0}
IsOfCrew (Some (TooLarge stream)) = Unit {0}
IsOfCrew (Some (Limit node)) = Unit {0}
IsOfCrew (Some (Refused line)) = ⊥
IsOfCrew (Some WriteFailed) = ⊥
IsOfCrew (Some NoMemory) = Unit {0}
IsOfCrew (Some (Cut stop)) = ⊥
IsOfCrew (Some (CutRead stream)) = ⊥
IsOfCrew (Some (CutLarge stream)) = ⊥
IsOfCrew (Some (CutRefused line)) = ⊥

-- the stop of a run that stopped so and whose output failed
abbrev pub cut_of : RunStop → RunStop
cut_of (ReadFault stream) = CutRead stream
cut_of (TooLarge stream) = CutLarge stream
cut_of (Limit node) = Cut (CoreLimit node)
cut_of (Refused line) = Refused line
cut_of WriteFailed = WriteFailed
cut_of NoMemory = Cut CoreMemory
cut_of (Cut stop) = Cut stop
cut_of (CutRead stream) = CutRead stream
cut_of (CutLarge stream) = CutLarge stream
cut_of (CutRefused line) = CutRefused line

abbrev pub cut_where : Option RunStop → RunStop
cut_where None = WriteFailed
cut_where (Some stop) = cut_of stop

-- a stop, behind which what was left was written or not
abbrev pub rest_end : RunStop → Result (Unit {0}) WriteStop → RunStop
rest_end stop (Ok u) = stop
rest_end stop (Err Failed) = cut_of stop
rest_end stop (Err LineMemory) = NoMemory

-- where the sink is told, the lines of what was not drained were written behind this stop, as far as the answer says
pub record WritesRest (stop : RunStop) (form : Form) (core : CoreState) (sink sink' : SinkState) (answer : RunStop) : Type 0 where
  pub written : Result (Unit {0}) WriteStop
  pub answer_is : answer ≡ rest_end stop written
  pub lines : IsTrue sink'.told → WritesBy write_cut (shown form core.plan.nodes core.kept.undrained) sink sink' written

-- where a run stands: its core, what became of its results, and its output
pub record RunState : Type 0 where
  pub core : CoreState
  pub results : ResultWriter
  pub sink : SinkState

abbrev pub run_state : CoreState → ResultWriter → SinkState → RunState
run_state core results sink = record { core = core; results = results; sink = sink }

-- the core was settled on the way to this stop
pub record StopsAtSettling (old new : RunState) (answer : RunStop) : Type 0 where
  pub stop : TurnStop
  pub answer_is : answer ≡ of_turn stop
  pub stops : SettleStops old.results.form old.core new.core old.sink new.sink stop

-- how it ends where the writer was over
abbrev pub ClosesOver : Option RunStop → RunState → RunState → Result (Unit {0}) RunStop → Type 0
ClosesOver None old new (Ok u) = SettlesInto old.core new.core old.results new.results old.sink new.sink
ClosesOver None old new (Err answer) = StopsAtSettling old new answer
ClosesOver (Some stop) old new (Ok u) = ⊥
ClosesOver (Some stop) old new (Err answer) = WritesRest stop old.results.form old.core old.sink new.sink answer

-- nothing more was written, and this is answered
abbrev pub IsAnswered : RunStop → RunState → RunState → Result (Unit {0}) RunStop → Type 0
IsAnswered stop old new result = (result ≡ Err stop) × (new.sink ≡ old.sink)

-- how it ends, by the first stop that workers tell and how the writer ended
abbrev pub Closes : Option RunStop → WriteEnd → RunState → RunState → Result (Unit {0}) RunStop → Type 0
Closes first Over old new result = ClosesOver first old new result
Closes first WriteFault old new result = IsAnswered (cut_where first) old new result
Closes first WriteMemory old new result = IsAnswered NoMemory old new result

-- ---- the first stop

abbrev pub file_stop : Option ℕ → Option RunStop
file_stop None = None
file_stop (Some stream) = Some (TooLarge stream)

abbrev pub node_stop : Option ℕ → Option RunStop → Option RunStop
node_stop None rest = rest
node_stop (Some node) rest = Some (Limit node)

abbrev pub read_stop : Option ℕ → Option RunStop → Option RunStop
read_stop None rest = rest
read_stop (Some stream) rest = Some (ReadFault stream)

-- the first that workers tell of want of memory, a read that failed, the limit of a node and a file that is too large
abbrev pub first_of : Causes → Option RunStop
first_of causes = if causes.memory then Some NoMemory else read_stop causes.read (node_stop causes.node (file_stop causes.file))
