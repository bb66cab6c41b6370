-- What a call leaves that ends for want of memory, whatever files are told.
use Rattle.std.proofs.Common.{◌≡◌, ◌≤◌, inl, inr, List, [], ℕ, IsTrue, arith}
use Rattle.pj_events.specs.declared.events.Stop.TheVariants.{Limit as CoreLimit, NoMemory as CoreMemory}
use Rattle.pj_feed.specs.declared.stops.OpeningStop.TheVariants.{Fault, NoMemory as OpeningMemory}
use Rattle.pj_io.specs.States.{FolderState, SinkState}
use Rattle.pj_report.specs.declared.status.Status.TheVariants.{NoMemory}
use Rattle.pj_report.specs.Report.{status_line}
use Rattle.pj_report.specs.Written.{Delivered}
use Rattle.pj_run.specs.Cuts.{files_cut}
use Rattle.pj_run.specs.Stops.{files_status, stop_line}
use Rattle.pj_run.specs.Whole.{LeavesWhole, WroteLines}
use Rattle.pj_run.specs.declared.stops.FilesStop.{FilesStop}
use Rattle.pj_run.specs.declared.stops.FilesStop.TheVariants.{Opening, Run}
use Rattle.pj_run.specs.declared.stops.RunStop.TheVariants.{ReadFault as RunFault, TooLarge, Limit as RunLimit, Refused as RunRefused, WriteFailed, NoMemory as RunMemory, Cut as RunCut, CutRead, CutLarge, CutRefused}
use Rattle.pj_run.proofs.WholeLaws.{none_wrote}
use Rattle.pj_prepare.specs.declared.stops.FileStop.TheVariants.{OpenFault as NotOpened, ReadFault as NotRead, TooLong, NoMemory as FileMemory}
use Rattle.pj_prepare.specs.declared.stops.PlanStop.{PlanStop}
use Rattle.pj_prepare.specs.declared.stops.PlanStop.TheVariants.{File as PlanFile, Refused, FileCount as OtherCount, Unsafe as Stuck, NoMemory as PlanMemory}
use Rattle.pj_prepare.specs.declared.stops.StepsStop.{StepsStop}
use Rattle.pj_prepare.specs.declared.stops.StepsStop.TheVariants.{File as ScriptFile, Refused as LineRefused, NoMemory as StepsMemory}
use Rattle.pj_alone.specs.Endings.{MemoryLeaves}
use Rattle.pj_alone.proofs.CallLaws.{CauseBy}
use Rattle.pj_prepare.specs.Stops.{plan_status, refusal_text, steps_status}

-- whole lines, and then the status' line
then_line : (first now after : SinkState) → first.faults ≤ now.faults → (IsTrue after.told → WroteLines first.written now.written) → Delivered (status_line [] NoMemory) now after → MemoryLeaves first after
then_line first now after le wrote line told = elim (line told) [
  | inl e ↦ inl (now.written, wrote told, e)
  | inr cut ↦ let rose = cut.0 in inr (omega (arith, rose, le))
]

-- a run that stopped
pub stopped_memory : (Beyond : ℕ → Type 0) (operand : ℕ) (stop : FilesStop) (names : List (List ℕ)) (before new : FolderState) (name : List ℕ) (first now after : SinkState) → CauseBy Beyond stop names before new first now → (IsTrue after.told → LeavesWhole (files_cut stop) first.written now.written)
    → first.faults ≤ now.faults → now.faults ≤ after.faults → Delivered (stop_line operand stop name) now after → files_status operand stop ≡ NoMemory → MemoryLeaves first after
stopped_memory Beyond operand (Opening (Fault stream)) names before new name first now after cause leaves le more line is = absurd (cc)
stopped_memory Beyond operand (Opening OpeningMemory) names before new name first now after cause leaves le more line is = then_line first now after le leaves line
stopped_memory Beyond operand (Run (RunFault stream)) names before new name first now after cause leaves le more line is = absurd (cc)
stopped_memory Beyond operand (Run (TooLarge stream)) names before new name first now after cause leaves le more line is = absurd (cc)
stopped_memory Beyond operand (Run (RunLimit node)) names before new name first now after cause leaves le more line is = absurd (cc)
stopped_memory Beyond operand (Run (RunRefused line)) names before new name first now after cause leaves le more written is = absurd (cc)
stopped_memory Beyond operand (Run (CutRead stream)) names before new name first now after cause leaves le more written is = absurd (cc)
stopped_memory Beyond operand (Run (CutLarge stream)) names before new name first now after cause leaves le more written is = absurd (cc)
stopped_memory Beyond operand (Run (CutRefused line)) names before new name first now after cause leaves le more written is = absurd (cc)
stopped_memory Beyond operand (Run WriteFailed) names before new name first now after cause leaves le more line is = absurd (cc)
stopped_memory Beyond operand (Run RunMemory) names before new name first now after cause leaves le more line is = then_line first now after le leaves line
stopped_memory Beyond operand (Run (RunCut (CoreLimit node))) names before new name first now after cause leaves le more line is = absurd (cc)
stopped_memory Beyond operand (Run (RunCut CoreMemory)) names before new name first now after cause leaves le more line is = λ told. let rose = cause.0 in inr (omega (arith, rose, more))

-- a call that had no plan to run
pub early_memory : (stop : PlanStop) (old new : SinkState) → Delivered (refusal_text stop) old new → plan_status stop ≡ NoMemory → MemoryLeaves old new
early_memory (PlanFile NotOpened) old new line is = absurd (cc)
early_memory (PlanFile NotRead) old new line is = absurd (cc)
early_memory (PlanFile TooLong) old new line is = absurd (cc)
early_memory (PlanFile FileMemory) old new line is = then_line old old new (omega arith) (λ told. none_wrote old.written) line
early_memory (Refused fault) old new line is = absurd (cc)
early_memory (OtherCount want got) old new line is = absurd (cc)
early_memory (Stuck found) old new line is = absurd (cc)
early_memory PlanMemory old new line is = then_line old old new (omega arith) (λ told. none_wrote old.written) line

-- a call that had no script to play
pub steps_memory : (stop : StepsStop) (old new : SinkState) → Delivered (status_line [] (steps_status stop)) old new → steps_status stop ≡ NoMemory → MemoryLeaves old new
steps_memory (ScriptFile NotOpened) old new line is = absurd (cc)
steps_memory (ScriptFile NotRead) old new line is = absurd (cc)
steps_memory (ScriptFile TooLong) old new line is = absurd (cc)
steps_memory (ScriptFile FileMemory) old new line is = then_line old old new (omega arith) (λ told. none_wrote old.written) line
steps_memory (LineRefused at) old new line is = absurd (cc)
steps_memory StepsMemory old new line is = then_line old old new (omega arith) (λ told. none_wrote old.written) line
