-- What is written of a made input, and what a stop leaves of it.
use Rattle.std.specs.Prelude.{◌≡◌, ℕ, ◌⊎◌, ⊤, codes, List, [], ◌∷◌, ◌++◌, None, IsTrue}
use Rattle.pj_io.specs.Causes.{Rose}
use Rattle.pj_io.specs.States.{SinkState}
use Rattle.pj_io.specs.Steady.{steady_folder_of}
use Rattle.pj_feed.specs.Named.{files_named}
use Rattle.pj_pattern.specs.declared.element.Element.{Element}
use Rattle.pj_pattern.specs.Elements.{rows_of}
use Rattle.pj_report.specs.Sums.{exact_sum, total_of}
use Rattle.pj_events.specs.declared.events.Out.{Out}
use Rattle.pj_events.specs.Outcomes.{elements_out}
use Rattle.pj_make.specs.Inputs.{bids_text, items_text}
use Rattle.pj_make_laws.specs.Made.{made_plan}
use Rattle.pj_report.specs.declared.status.Status.{Status}
use Rattle.pj_report.specs.declared.status.Status.TheVariants.{Done, Usage, OpenFault, ReadFault, PlanRefused, FileCount, Unsafe, ScriptRefused, WriteFault, NoMemory, Limit}
use Rattle.pj_report.specs.Report.{make_line, status_line}
use Rattle.pj_report.specs.Written.{flat, holding, Delivered, FrontOf, WholeLines}
use Rattle.pj_run.specs.Jobs.{Job}
use Rattle.pj_run.specs.Runs.{job_in, outs_of, run_lines, IsNewCore, IsAnswer, ArePunctuations, AreLawful, AreTallies}
use Rattle.pj_prepare.specs.declared.calls.Prepared.{Prepared}
use Rattle.pj_alone.specs.declared.made.MadeSource.{MadeSource}
use Rattle.pj_prepare.specs.declared.stops.PlanStop.{PlanStop}
use Rattle.pj_prepare.specs.declared.stops.PlanStop.TheVariants.{File as PlanFile, Refused, FileCount as OtherCount, Unsafe as Stuck, NoMemory as PlanMemory}
use Rattle.pj_prepare.specs.Calls.{job_with, make_options}

-- ---- what is run

abbrev pub made_job : Job
made_job = job_with make_options None made_plan.nodes

abbrev pub made_files : ℕ → ℕ → List (List ℕ)
made_files seed count = items_text count ∷ bids_text seed count ∷ []

-- the line that tells what is made, and those of the run
abbrev pub made_lines : ℕ → ℕ → List (List ℕ)
made_lines seed count = make_line seed count ∷ run_lines made_job (made_files seed count)

-- what is ready to be run of a made plan
pub record IsMadeReady (ready : Prepared) : Type 0 where
  pub fresh : IsNewCore ready.core
  pub runs : job_in ready.writing ready.core ≡ made_job

-- a core of the made plan, and the made files by their names
pub record IsMadeSource (seed count : ℕ) (made : MadeSource) : Type 0 where
  pub ready : IsMadeReady made.ready
  pub names : made.names ≡ codes "items" ∷ codes "bids" ∷ []
  pub files : files_named made.names (steady_folder_of made.folder) ≡ made_files seed count

-- memory was wanting, and nothing else is so of the plan
abbrev pub IsMemory : PlanStop → Type 0
IsMemory (PlanFile stop) = ⊥
IsMemory (Refused fault) = ⊥
IsMemory (OtherCount want got) = ⊥
IsMemory (Stuck found) = ⊥
IsMemory PlanMemory = ⊤

-- ---- what is left

-- These bytes were written, in all, and then the status' line, or as much of it as was written before the output failed
abbrev pub Left : List ℕ → List ℕ → SinkState → SinkState → Type 0
Left bytes line old new = Delivered line (holding old bytes) new

-- memory was wanting: whole first lines were written, and then the status' line; or the output failed behind, and a front was
abbrev pub MemoryLeft : List (List ℕ) → SinkState → SinkState → Type 0
MemoryLeft lines old new =
    ((bytes : List ℕ) × WholeLines lines old.written bytes × Left bytes (status_line [] NoMemory) old new) ⊎ (FrontOf (flat lines) old.written new.written × Rose old.faults new.faults)

-- What is left of these lines by a call that can end in three ways alone: all of them; where a write failed, a front of their bytes;
-- where memory was wanting, whole first lines and the status' line
abbrev pub LinesLeft : Status → List (List ℕ) → SinkState → SinkState → Type 0
LinesLeft Done lines old new = IsTrue new.told → new.written ≡ old.written ++ flat lines
LinesLeft Usage lines old new = ⊥
LinesLeft (PlanRefused line why) lines old new = ⊥
LinesLeft (FileCount want got) lines old new = ⊥
LinesLeft (Unsafe node risk) lines old new = ⊥
LinesLeft (ScriptRefused line) lines old new = ⊥
LinesLeft (OpenFault n) lines old new = ⊥
LinesLeft (ReadFault n) lines old new = ⊥
LinesLeft WriteFault lines old new = Rose old.faults new.faults × (IsTrue new.told → FrontOf (flat lines) old.written new.written)
LinesLeft NoMemory lines old new = IsTrue new.told → MemoryLeft lines old new
LinesLeft (Limit what) lines old new = ⊥

-- ---- a made input that is done

-- this holds of what the run over the made files handed out, and of its report
abbrev pub OfMade : (Job → List (List ℕ) → List Element → List (List ℕ) → Type 0) → ℕ → ℕ → List Element → List (List ℕ) → Type 0
OfMade Holds seed count outputs report = Holds made_job (made_files seed count) outputs report

-- The lines that were written are those of the run over the made files, which writes no results, with what it handed out: its rows are
-- the answer, its punctuations the plan's, as bags; they are lawful; and the report's counts, peaks and total are theirs, which is
-- the exact sum of the last column of the rows
pub record MadeRun (seed count : ℕ) (lines : List (List ℕ)) : Type 0 where
  pub outs : List Out
  pub report : List (List ℕ)
  pub handed_out : outs ≡ outs_of made_job (made_files seed count)
  pub written : lines ≡ make_line seed count ∷ report
  pub answer : OfMade IsAnswer seed count (elements_out outs) report
  pub punctuations : OfMade ArePunctuations seed count (elements_out outs) report
  pub lawful : OfMade AreLawful seed count (elements_out outs) report
  pub tallies : OfMade AreTallies seed count (elements_out outs) report
  pub exact : total_of (elements_out outs) ≡ exact_sum (rows_of (elements_out outs))

-- where the sink is told, such lines were written
abbrev pub IsMade : ℕ → ℕ → SinkState → SinkState → Type 0
IsMade seed count old new = IsTrue new.told → (lines : List (List ℕ)) × MadeRun seed count lines × (new.written ≡ old.written ++ flat lines)
