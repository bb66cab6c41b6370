-- How the stop of a part becomes that of the whole, and the status of a run that ended.
use Rattle.std.specs.Prelude.{ℕ, ◌+◌, ◌≤◌, ⊤, List, [], Option, Some, None, Result, Ok, Err}
use Rattle.pj_intake.specs.declared.intake.IntakeStop.TheVariants.{ReadFault as IntakeFault, ByteLimit, NoMemory as IntakeMemory}
use Rattle.pj_events.specs.declared.events.Stop.{Stop}
use Rattle.pj_events.specs.declared.events.Stop.TheVariants.{Limit as CoreLimit, NoMemory as CoreMemory}
use Rattle.pj_report.specs.declared.stops.WriteStop.{WriteStop}
use Rattle.pj_report.specs.declared.stops.WriteStop.TheVariants.{Failed, NoMemory as WriteMemory}
use Rattle.pj_run.specs.declared.stops.FeedStop.{FeedStop}
use Rattle.pj_run.specs.declared.stops.FeedWhy.{FeedWhy}
use Rattle.pj_run.specs.declared.stops.FeedWhy.TheVariants.{Intake, WriteFailed as FlushFailed}
use Rattle.pj_run.specs.declared.stops.TurnStop.{TurnStop}
use Rattle.pj_run.specs.declared.stops.TurnStop.TheVariants.{Limit as TurnLimit, WriteFailed as TurnFailed, NoMemory as TurnMemory, Cut as TurnCut}
use Rattle.pj_run.specs.declared.stops.RunStop.{RunStop}
use Rattle.pj_run.specs.declared.stops.RunStop.TheVariants.{ReadFault, TooLarge, Limit, Refused, WriteFailed, NoMemory, Cut, CutRead, CutLarge, CutRefused}
use Rattle.pj_feed.specs.declared.stops.OpeningStop.{OpeningStop}
use Rattle.pj_feed.specs.declared.stops.OpeningStop.TheVariants.{Fault, NoMemory as OpeningMemory}
use Rattle.pj_run.specs.declared.stops.FilesStop.{FilesStop}
use Rattle.pj_run.specs.declared.stops.FilesStop.TheVariants.{Opening, Run}
use Rattle.pj_report.specs.declared.status.Status.{Status}
use Rattle.pj_report.specs.declared.status.Status.TheVariants.{OpenFault, ScriptRefused, ReadFault as StatusFault, WriteFault, NoMemory as StatusMemory, Limit as StatusLimit}
use Rattle.pj_report.specs.declared.status.LimitOf.TheVariants.{Node, File}
use Rattle.pj_report.specs.Report.{status_line}

abbrev pub of_core : Stop → TurnStop
of_core (CoreLimit node) = TurnLimit node
of_core CoreMemory = TurnMemory

abbrev pub of_write : WriteStop → TurnStop
of_write Failed = TurnFailed
of_write WriteMemory = TurnMemory

-- the stop of a core, behind which the lines until then were written or not
abbrev pub end_of : Result (Unit {0}) WriteStop → Option Stop → Result (Unit {0}) TurnStop
end_of (Ok u) None = Ok u
end_of (Err why) None = Err (of_write why)
end_of (Ok u) (Some stop) = Err (of_core stop)
end_of (Err Failed) (Some stop) = Err (TurnCut stop)
end_of (Err WriteMemory) (Some stop) = Err TurnMemory

abbrev pub of_turn : TurnStop → RunStop
of_turn (TurnLimit node) = Limit node
of_turn TurnFailed = WriteFailed
of_turn TurnMemory = NoMemory
of_turn (TurnCut stop) = Cut stop

abbrev pub stop_at : ℕ → FeedWhy → RunStop
stop_at stream (Intake IntakeFault) = ReadFault stream
stop_at stream (Intake ByteLimit) = TooLarge stream
stop_at stream (Intake IntakeMemory) = NoMemory
stop_at stream FlushFailed = WriteFailed

abbrev pub of_feed : FeedStop → RunStop
of_feed stop = stop_at stop.stream stop.why

abbrev pub core_status : Stop → Status
core_status (CoreLimit node) = StatusLimit (Node node)
core_status CoreMemory = StatusMemory

-- the status of a run that ended; the first stream's file is the operand of this number, and the others follow
abbrev pub run_status : ℕ → RunStop → Status
run_status first (ReadFault stream) = StatusFault (first + stream)
run_status first (TooLarge stream) = StatusLimit (File stream)
run_status first (Limit node) = StatusLimit (Node node)
run_status first (Refused line) = ScriptRefused line
run_status first WriteFailed = WriteFault
run_status first NoMemory = StatusMemory
run_status first (Cut stop) = core_status stop
run_status first (CutRead stream) = StatusFault (first + stream)
run_status first (CutLarge stream) = StatusLimit (File stream)
run_status first (CutRefused line) = ScriptRefused line

abbrev pub opening_status : ℕ → OpeningStop → Status
opening_status first (Fault stream) = OpenFault (first + stream)
opening_status first OpeningMemory = StatusMemory

abbrev pub files_status : ℕ → FilesStop → Status
files_status first (Opening stop) = opening_status first stop
files_status first (Run stop) = run_status first stop

-- streams are few, so that the numbers of their operands are small
abbrev pub IsOpeningOfFew : OpeningStop → Type 0
IsOpeningOfFew (Fault stream) = stream ≤ 128
IsOpeningOfFew OpeningMemory = ⊤

abbrev pub IsRunOfFew : RunStop → Type 0
IsRunOfFew (ReadFault stream) = stream ≤ 128
IsRunOfFew (TooLarge stream) = ⊤
IsRunOfFew (Limit node) = ⊤
IsRunOfFew (Refused line) = ⊤
IsRunOfFew WriteFailed = ⊤
IsRunOfFew NoMemory = ⊤
IsRunOfFew (Cut stop) = ⊤
IsRunOfFew (CutRead stream) = stream ≤ 128
IsRunOfFew (CutLarge stream) = ⊤
IsRunOfFew (CutRefused line) = ⊤

abbrev pub IsOfFew : FilesStop → Type 0
IsOfFew (Opening stop) = IsOpeningOfFew stop
IsOfFew (Run stop) = IsRunOfFew stop

-- ---- the line of a stop

-- the line of the status, with this name; none where the output failed, before or behind another stop
abbrev pub run_line : ℕ → RunStop → List ℕ → List ℕ
run_line first (ReadFault stream) name = status_line name (StatusFault (first + stream))
run_line first (TooLarge stream) name = status_line name (StatusLimit (File stream))
run_line first (Limit node) name = status_line name (StatusLimit (Node node))
run_line first (Refused line) name = status_line name (ScriptRefused line)
run_line first WriteFailed name = []
run_line first NoMemory name = status_line name StatusMemory
run_line first (Cut stop) name = []
run_line first (CutRead stream) name = []
run_line first (CutLarge stream) name = []
run_line first (CutRefused line) name = []

abbrev pub stop_line : ℕ → FilesStop → List ℕ → List ℕ
stop_line first (Opening stop) name = status_line name (opening_status first stop)
stop_line first (Run stop) name = run_line first stop name

-- the output did not fail
abbrev pub IsRunTold : RunStop → Type 0
IsRunTold (ReadFault stream) = ⊤
IsRunTold (TooLarge stream) = ⊤
IsRunTold (Limit node) = ⊤
IsRunTold (Refused line) = ⊤
IsRunTold WriteFailed = ⊥
IsRunTold NoMemory = ⊤
IsRunTold (Cut stop) = ⊥
IsRunTold (CutRead stream) = ⊥
IsRunTold (CutLarge stream) = ⊥
IsRunTold (CutRefused line) = ⊥

abbrev pub IsStopTold : FilesStop → Type 0
IsStopTold (Opening stop) = ⊤
IsStopTold (Run stop) = IsRunTold stop
