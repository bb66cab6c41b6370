-- How the stop of a part becomes that of the whole.
use Rattle.std.specs.Prelude.{ℕ, List, [], Option, Some, None, Result, Ok, Err}
use Rattle.pj_safety.specs.declared.risk.PlanRisk.{PlanRisk}
use Rattle.pj_prepare.specs.declared.stops.FileStop.{FileStop}
use Rattle.pj_prepare.specs.declared.stops.FileStop.TheVariants.{OpenFault as NotOpened, ReadFault as NotRead, TooLong, NoMemory as FileMemory}
use Rattle.pj_prepare.specs.declared.stops.PlanStop.{PlanStop}
use Rattle.pj_prepare.specs.declared.stops.StepsStop.{StepsStop}
use Rattle.pj_prepare.specs.declared.stops.StepsStop.TheVariants.{File as ScriptFile, Refused as LineRefused, NoMemory as StepsMemory}
use Rattle.pj_prepare.specs.declared.stops.PlanStop.TheVariants.{File as PlanFile, Refused, FileCount as OtherCount, Unsafe as Stuck, NoMemory as PlanMemory}
use Rattle.pj_report.specs.declared.status.Status.{Status}
use Rattle.pj_report.specs.Report.{status_line}
use Rattle.pj_report.specs.Written.{flat}
use Rattle.pj_report.specs.declared.status.Status.TheVariants.{Done, OpenFault, ReadFault as StatusFault, PlanRefused, FileCount, Unsafe, ScriptRefused, WriteFault, NoMemory as StatusMemory, Limit as StatusLimit}
use Rattle.pj_report.specs.declared.status.LimitOf.{LimitOf}
use Rattle.pj_report.specs.declared.status.LimitOf.TheVariants.{Plan, Script}

-- the status of a call of which the file of this operand was not read, whose bytes have a limit
abbrev pub file_status : ℕ → LimitOf → FileStop → Status
file_status operand what NotOpened = OpenFault operand
file_status operand what NotRead = StatusFault operand
file_status operand what TooLong = StatusLimit what
file_status operand what FileMemory = StatusMemory

-- the status of a call that has no plan to run
abbrev pub plan_status : PlanStop → Status
plan_status (PlanFile stop) = file_status 1 Plan stop
plan_status (Refused fault) = PlanRefused fault.line fault.why
plan_status (OtherCount want got) = FileCount want got
plan_status (Stuck found) = Unsafe found.node found.risk
plan_status PlanMemory = StatusMemory

-- the status of a call whose script was not had; it is operand 2
abbrev pub steps_status : StepsStop → Status
steps_status (ScriptFile stop) = file_status 2 Script stop
steps_status (LineRefused line) = ScriptRefused line
steps_status StepsMemory = StatusMemory

-- what is written where there is no plan to run: the two lines of an unsafe plan, or the line of the status
abbrev pub refusal_text : PlanStop → List ℕ
refusal_text (Stuck found) = flat found.lines
refusal_text (PlanFile stop) = status_line [] (file_status 1 Plan stop)
refusal_text (Refused fault) = status_line [] (PlanRefused fault.line fault.why)
refusal_text (OtherCount want got) = status_line [] (FileCount want got)
refusal_text PlanMemory = status_line [] StatusMemory

-- the status of a check: of a plan that is at this risk, or of a safe one whose lines were written or not
abbrev pub verdict_status : {E : Type 0} → Option (ℕ × PlanRisk) → Result (Unit {0}) E → Status
verdict_status (Some (node, risk)) written = Unsafe node risk
verdict_status None (Ok u) = Done
verdict_status None (Err stop) = WriteFault
