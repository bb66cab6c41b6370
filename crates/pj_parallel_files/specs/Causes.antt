-- Why a run with workers over files stopped.
use Rattle.std.specs.Prelude.{ℕ, ⊤, List}
use Rattle.pj_io.specs.Causes.{Rose}
use Rattle.pj_io.specs.States.{FolderState, SinkState}
use Rattle.pj_events.specs.declared.events.Stop.{Stop}
use Rattle.pj_events.specs.declared.events.Stop.TheVariants.{Limit as CoreLimit, NoMemory as CoreMemory}
use Rattle.pj_feed.specs.Named.{AreTold, files_named}
use Rattle.pj_feed.specs.declared.stops.OpeningStop.TheVariants.{Fault, NoMemory as OpeningMemory}
use Rattle.pj_run.specs.Jobs.{Job}
use Rattle.pj_run.specs.RunEnds.{IsFaultOf, IsLargeFile}
use Rattle.pj_run.specs.declared.stops.RunStop.TheVariants.{ReadFault, TooLarge, Limit, Refused, WriteFailed, NoMemory, Cut, CutRead, CutLarge, CutRefused}
use Rattle.pj_run.specs.declared.stops.FilesStop.{FilesStop}
use Rattle.pj_run.specs.declared.stops.FilesStop.TheVariants.{Opening, Run}
use Rattle.pj_crew_runs.specs.Limits.{ComesBeyond}

-- why a core stopped whose last lines could not be written
abbrev pub CoreStopCause : Stop → Job → List (List ℕ) → FolderState → Type 0
CoreStopCause (CoreLimit node) job names before = AreTold names before → ComesBeyond job (files_named names before) node
CoreStopCause CoreMemory job names before = ⊤

-- why the run stopped: the faults of a file rose, one is too large, more elements come to a node than may, or the sink's faults rose, behind
-- such a stop or without one; memory may be wanting at any time
abbrev pub WorkersCause : FilesStop → Job → List (List ℕ) → FolderState → FolderState → SinkState → SinkState → Type 0
WorkersCause (Opening (Fault stream)) job names before after old new = IsFaultOf stream names before after
WorkersCause (Opening OpeningMemory) job names before after old new = ⊤
WorkersCause (Run (ReadFault stream)) job names before after old new = IsFaultOf stream names before after
WorkersCause (Run (TooLarge stream)) job names before after old new = IsLargeFile stream names before
WorkersCause (Run (Limit node)) job names before after old new = AreTold names before → ComesBeyond job (files_named names before) node
WorkersCause (Run (Refused line)) job names before after old new = ⊥
WorkersCause (Run WriteFailed) job names before after old new = Rose old.faults new.faults
WorkersCause (Run NoMemory) job names before after old new = ⊤
WorkersCause (Run (Cut stop)) job names before after old new = Rose old.faults new.faults × CoreStopCause stop job names before
WorkersCause (Run (CutRead stream)) job names before after old new = Rose old.faults new.faults × IsFaultOf stream names before after
WorkersCause (Run (CutLarge stream)) job names before after old new = Rose old.faults new.faults × IsLargeFile stream names before
WorkersCause (Run (CutRefused line)) job names before after old new = ⊥
