-- How a run over files ends, and why.
use Rattle.std.specs.Prelude.{◌≡◌, ◌<◌, ◌≤◌, ◌+◌, ◌^◌, ℕ, ⊤, List, [], length, take, Result, Ok, Err, Some, IsTrue, IfErr, slice_get, slice_index_or}
use Rattle.pj_run.specs.Jobs.{HasScript, Job}
use Rattle.pj_io.specs.Causes.{Rose}
use Rattle.pj_io.specs.States.{FolderState, SinkState}
use Rattle.pj_run.specs.declared.stops.RunStop.{RunStop}
use Rattle.pj_run.specs.declared.stops.RunStop.TheVariants.{ReadFault, TooLarge, Limit, Refused, WriteFailed, NoMemory, Cut, CutRead, CutLarge, CutRefused}
use Rattle.pj_events.specs.declared.events.Stop.{Stop}
use Rattle.pj_events.specs.declared.events.Stop.TheVariants.{Limit as CoreLimit, NoMemory as CoreMemory}
use Rattle.pj_feed.specs.declared.stops.OpeningStop.TheVariants.{Fault, NoMemory as OpeningMemory}
use Rattle.pj_run.specs.declared.stops.FilesStop.{FilesStop}
use Rattle.pj_run.specs.declared.stops.FilesStop.TheVariants.{Opening, Run}
use Rattle.pj_feed.specs.Named.{AreTold, files_named, IsAlone}
use Rattle.pj_run.specs.Ends.{EndsBefore, EndsAtBytes, EndsAtLimit, EndsCutBefore, EndsCutRefused, EndsRefused, ArrivedOf, EndsCutAtBytes}
use Rattle.pj_feed.specs.Feeds.{FeedState, AreSameFeeds, AreAllTaken, AllTold, bytes_of, files_of}
use Rattle.pj_feed.specs.Opened.{HasLasts, OpensFirst, StayOutside, TriesAtMost}
use Rattle.pj_run.specs.Runs.{GoesBeyond, due_lines, outs_of, refused_line}
use Rattle.pj_run.specs.Turning.{CutEnd, TurnsEnd}
use Rattle.pj_run.specs.Cuts.{run_cut, files_cut}
use Rattle.pj_report.specs.Forms.{shown}
use Rattle.pj_report.specs.Written.{WritesBy}

-- ---- over feeds

-- where the files and the sink are told: these lines were written, or as much of them as the stop leaves
abbrev pub FeedsWrite : {T : Type 0} → List FeedState → List (List ℕ) → SinkState → SinkState → Result T RunStop → Type 0
FeedsWrite feeds lines old new result = AllTold feeds → IsTrue new.told → WritesBy run_cut lines old new result

-- the lines that the turns of a run write as they are made
abbrev pub TurnsWrite : {T : Type 0} → Job → List FeedState → SinkState → SinkState → Result T RunStop → Type 0
TurnsWrite job feeds old new result = FeedsWrite feeds (shown job.form job.nodes (outs_of job (files_of feeds))) old new result

-- where the files and the sink are told: what the stop of a run's turns leaves of the sink and of the feeds
abbrev pub StoppedTurns : {T : Type 0} → Job → List FeedState → List FeedState → SinkState → SinkState → Result T RunStop → Type 0
StoppedTurns job olds news old new result =
    AllTold olds → IsTrue new.told → IfErr result (λ stop. TurnsEnd stop job (files_of olds) news old.written new.written)

-- why a core stopped whose last lines could not be written
abbrev pub CutCause : Stop → Job → List (List ℕ) → Type 0
CutCause (CoreLimit node) job files = GoesBeyond job files node
CutCause CoreMemory job files = ⊤

-- why the turns of a run stopped: a source has faults, a file gave too many bytes, an element went beyond a limit, a step of a script is
-- not enabled, or the sink's faults rose, behind such a stop or without one; behind a read that failed only where there is a script, whose
-- steps write nothing until they drain; memory may be wanting at any time
abbrev pub TurnsCause : RunStop → Job → List FeedState → List FeedState → SinkState → SinkState → Type 0
TurnsCause (ReadFault stream) job olds news old new = (feed : FeedState) × (slice_get news stream ≡ Some feed) × (1 ≤ feed.source.faults)
TurnsCause (TooLarge stream) job olds news old new =
    (feed : FeedState) × (slice_get olds stream ≡ Some feed) × (IsTrue feed.source.told → 2 ^ 40 ≤ length (bytes_of feed))
TurnsCause (Limit node) job olds news old new = AllTold olds → GoesBeyond job (files_of olds) node
TurnsCause (Refused line) job olds news old new = HasScript job × (AllTold olds → refused_line job (files_of olds) ≡ Some line)
TurnsCause WriteFailed job olds news old new = Rose old.faults new.faults
TurnsCause NoMemory job olds news old new = ⊤
TurnsCause (Cut stop) job olds news old new = Rose old.faults new.faults × (AllTold olds → CutCause stop job (files_of olds))
TurnsCause (CutRead stream) job olds news old new =
    Rose old.faults new.faults × (feed : FeedState) × (slice_get news stream ≡ Some feed) × (1 ≤ feed.source.faults) × HasScript job
TurnsCause (CutLarge stream) job olds news old new =
    Rose old.faults new.faults × (feed : FeedState) × (slice_get olds stream ≡ Some feed)
    × (IsTrue feed.source.told → 2 ^ 40 ≤ length (bytes_of feed)) × HasScript job
TurnsCause (CutRefused line) job olds news old new = Rose old.faults new.faults × HasScript job × (AllTold olds → refused_line job (files_of olds) ≡ Some line)

-- all bytes of the files were taken, and they were closed
pub record AreRead (feeds : List FeedState) (before after : FolderState) : Type 0 where
  pub news : List FeedState
  pub same : AreSameFeeds feeds news
  pub taken : AreAllTaken news
  pub lasts : HasLasts news before.last after.last

-- what the stop of a run over feeds leaves of the sink and the folder
pub record FeedsEnd (stop : RunStop) (job : Job) (feeds : List FeedState) (before after : FolderState) (written lines : List ℕ) : Type 0 where
  pub news : List FeedState
  pub same : AreSameFeeds feeds news
  pub ends : TurnsEnd stop job (files_of feeds) news written lines
  pub lasts : HasLasts news before.last after.last

-- the same, where the files and the sink are told
abbrev pub StoppedFeeds : {T : Type 0} → Job → List FeedState → FolderState → FolderState → SinkState → SinkState → Result T RunStop → Type 0
StoppedFeeds job feeds before after old new result =
    AllTold feeds → IsTrue new.told → IfErr result (λ stop. FeedsEnd stop job feeds before after old.written new.written)

-- why it stopped, where the faults of a file were added to those of its name
abbrev pub FeedsCause : RunStop → Job → List FeedState → FolderState → FolderState → SinkState → SinkState → Type 0
FeedsCause (ReadFault stream) job feeds before after old new =
    (feed : FeedState) × (slice_get feeds stream ≡ Some feed) × Rose (before.faults feed.source.name) (after.faults feed.source.name)
FeedsCause (TooLarge stream) job feeds before after old new =
    (feed : FeedState) × (slice_get feeds stream ≡ Some feed) × (IsTrue feed.source.told → 2 ^ 40 ≤ length (bytes_of feed))
FeedsCause (Limit node) job feeds before after old new = AllTold feeds → GoesBeyond job (files_of feeds) node
FeedsCause (Refused line) job feeds before after old new = HasScript job × (AllTold feeds → refused_line job (files_of feeds) ≡ Some line)
FeedsCause WriteFailed job feeds before after old new = Rose old.faults new.faults
FeedsCause NoMemory job feeds before after old new = ⊤
FeedsCause (Cut stop) job feeds before after old new = Rose old.faults new.faults × (AllTold feeds → CutCause stop job (files_of feeds))
FeedsCause (CutRead stream) job feeds before after old new =
    Rose old.faults new.faults × (feed : FeedState) × (slice_get feeds stream ≡ Some feed)
    × Rose (before.faults feed.source.name) (after.faults feed.source.name) × HasScript job
FeedsCause (CutLarge stream) job feeds before after old new =
    Rose old.faults new.faults × (feed : FeedState) × (slice_get feeds stream ≡ Some feed)
    × (IsTrue feed.source.told → 2 ^ 40 ≤ length (bytes_of feed)) × HasScript job
FeedsCause (CutRefused line) job feeds before after old new =
    Rose old.faults new.faults × HasScript job × (AllTold feeds → refused_line job (files_of feeds) ≡ Some line)

-- ---- over files by their names

-- which files were opened: all, or those before the one that could not be; then no names behind it were touched
abbrev pub FilesOpened : Result (Unit {0}) FilesStop → List (List ℕ) → FolderState → FolderState → Type 0
FilesOpened (Ok u) names before after = OpensFirst (length names) names before after
FilesOpened (Err (Opening (Fault stream))) names before after = OpensFirst stream names before after × StayOutside (take (stream + 1) names) before after
FilesOpened (Err (Opening OpeningMemory)) names before after = TriesAtMost (length names) names before after
FilesOpened (Err (Run stop)) names before after = OpensFirst (length names) names before after

-- where the files and the sink are told: the lines that are due of the run over these files were written, or as much of them as the
-- stop leaves
abbrev pub FilesWrite : {T : Type 0} → Job → List (List ℕ) → FolderState → SinkState → SinkState → Result T FilesStop → Type 0
FilesWrite job names folder old new result =
    AreTold names folder → IsTrue new.told → WritesBy files_cut (due_lines job (files_named names folder)) old new result

-- what the stop of a run over these files leaves
abbrev pub FilesEnd : FilesStop → Job → List (List ℕ) → FolderState → FolderState → List ℕ → List ℕ → Type 0
FilesEnd (Opening (Fault stream)) job names before after written lines =
    (lines ≡ written) × (IsAlone stream names → after.last (slice_index_or names stream []) ≡ before.last (slice_index_or names stream []))
FilesEnd (Opening OpeningMemory) job names before after written lines = ⊤
FilesEnd (Run (ReadFault stream)) job names before after written lines =
    (ends : EndsBefore job (files_named names before) stream written lines)
    × (IsAlone stream names → ArrivedOf job (files_named names before) stream (after.last (slice_index_or names stream [])) ends.front)
FilesEnd (Run (TooLarge stream)) job names before after written lines = EndsAtBytes job (files_named names before) stream written lines
FilesEnd (Run (Limit node)) job names before after written lines = EndsAtLimit job (files_named names before) node written lines
FilesEnd (Run (Refused line)) job names before after written lines = EndsRefused job (files_named names before) written lines
FilesEnd (Run WriteFailed) job names before after written lines = ⊤
FilesEnd (Run NoMemory) job names before after written lines = ⊤
FilesEnd (Run (Cut stop)) job names before after written lines = CutEnd stop job (files_named names before) written lines
FilesEnd (Run (CutRead stream)) job names before after written lines =
    (ends : EndsCutBefore job (files_named names before) stream written lines)
    × (IsAlone stream names → ArrivedOf job (files_named names before) stream (after.last (slice_index_or names stream [])) ends.front)
FilesEnd (Run (CutLarge stream)) job names before after written lines = EndsCutAtBytes job (files_named names before) stream written lines
FilesEnd (Run (CutRefused line)) job names before after written lines = EndsCutRefused job (files_named names before) written lines

-- the same, where the files and the sink are told
abbrev pub StoppedFiles : {T : Type 0} → Job → List (List ℕ) → FolderState → FolderState → SinkState → SinkState → Result T FilesStop → Type 0
StoppedFiles job names before after old new result =
    AreTold names before → IsTrue new.told → IfErr result (λ stop. FilesEnd stop job names before after old.written new.written)

-- there is such a file, and its faults rose
pub record IsFaultOf (stream : ℕ) (names : List (List ℕ)) (before after : FolderState) : Type 0 where
  pub there : stream < length names
  pub rose : Rose (before.faults (slice_index_or names stream [])) (after.faults (slice_index_or names stream []))

-- there is such a file, and where it is told it has so many bytes that it is too large
pub record IsLargeFile (stream : ℕ) (names : List (List ℕ)) (folder : FolderState) : Type 0 where
  pub there : stream < length names
  pub bytes : IsTrue (folder.told (slice_index_or names stream [])) → 2 ^ 40 ≤ length (folder.contents (slice_index_or names stream []))

-- why it stopped
abbrev pub FilesCause : FilesStop → Job → List (List ℕ) → FolderState → FolderState → SinkState → SinkState → Type 0
FilesCause (Opening (Fault stream)) job names before after old new = IsFaultOf stream names before after
FilesCause (Opening OpeningMemory) job names before after old new = ⊤
FilesCause (Run (ReadFault stream)) job names before after old new = IsFaultOf stream names before after
FilesCause (Run (TooLarge stream)) job names before after old new = IsLargeFile stream names before
FilesCause (Run (Limit node)) job names before after old new = AreTold names before → GoesBeyond job (files_named names before) node
FilesCause (Run (Refused line)) job names before after old new =
    HasScript job × (AreTold names before → refused_line job (files_named names before) ≡ Some line)
FilesCause (Run WriteFailed) job names before after old new = Rose old.faults new.faults
FilesCause (Run NoMemory) job names before after old new = ⊤
FilesCause (Run (Cut stop)) job names before after old new = Rose old.faults new.faults × (AreTold names before → CutCause stop job (files_named names before))
FilesCause (Run (CutRead stream)) job names before after old new = Rose old.faults new.faults × IsFaultOf stream names before after × HasScript job
FilesCause (Run (CutLarge stream)) job names before after old new = Rose old.faults new.faults × IsLargeFile stream names before × HasScript job
FilesCause (Run (CutRefused line)) job names before after old new =
    Rose old.faults new.faults × HasScript job × (AreTold names before → refused_line job (files_named names before) ≡ Some line)
