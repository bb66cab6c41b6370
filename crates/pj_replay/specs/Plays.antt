-- How far a replay has gone with the steps of its script, and where it stops among them.
use Rattle.std.specs.Prelude.{◌≡◌, ◌⊎◌, ◌≤◌, ◌^◌, ℕ, ⊤, Bool, true, false, Result, Ok, Err, List, [], ◌∷◌, ◌++◌, Some, IsTrue, IfErr, slice_get}
use Rattle.pj_io.specs.States.{SinkState}
use Rattle.pj_pattern.specs.declared.element.Element.{Element}
use Rattle.pj_events.specs.declared.events.Entry.{Entry}
use Rattle.pj_events.specs.declared.events.Out.{Out}
use Rattle.pj_events.specs.History.{nodes_from}
use Rattle.pj_events.specs.Limits.{ReachesLimit, StaysWithin}
use Rattle.pj_events.specs.OneThread.{Turn}
use Rattle.pj_events.specs.Outcomes.{elements_of as arrived_at, elements_out, outputs_of as handed_out}
use Rattle.pj_events.specs.Plan.{Node}
use Rattle.pj_events.specs.declared.events.Event.TheVariants.{Arrive}
use Rattle.pj_events.specs.declared.events.Stop.TheVariants.{Limit as CoreLimit, NoMemory as CoreMemory}
use Rattle.pj_feed.specs.Feeds.{FeedState, AllTold, AreSameFeeds, fed_elements, files_of}
use Rattle.pj_report.specs.Forms.{shown, taken_so_far}
use Rattle.pj_report.specs.Written.{Cut, Leaves, anywhere, between, flat}
use Rattle.pj_report.specs.declared.stops.WriteStop.{WriteStop}
use Rattle.pj_report.specs.declared.stops.WriteStop.TheVariants.{Failed, NoMemory as WriteMemory}
use Rattle.pj_run.specs.declared.stops.RunStop.{RunStop}
use Rattle.pj_run.specs.declared.stops.RunStop.TheVariants.{ReadFault, TooLarge, Limit, Refused, WriteFailed, NoMemory, Cut as RunCut, CutRead, CutLarge, CutRefused}
use Rattle.pj_run.specs.Cuts.{run_cut}
use Rattle.pj_run.specs.Ends.{ArrivedOf}
use Rattle.pj_run.specs.Jobs.{HasScript}
use Rattle.pj_run.specs.Runs.{plan_run, run_nodes}
use Rattle.pj_run.specs.PlanNames.{HasShortNames}
use Rattle.pj_run.specs.Whole.{LeavesWhole}
use Rattle.pj_script.specs.declared.step.ScriptStep.{ScriptStep}
use Rattle.pj_script.specs.Playing.{ending_of, play}
use Rattle.pj_run.specs.Goes.{BringsAll, HasKept, RunStart, StopCause, StopLeaves, refused_of, whole_of}
use Rattle.pj_replay.specs.Playing.{Follows, IsReady, Stage, lefts}

-- the entries that are to come: those of these steps, and where all are enabled, those behind the script
abbrev pub remaining : List Node → List (List Turn) → List (ℕ × ScriptStep) → List Entry
remaining nodes left steps = (play nodes left steps).entries ++ ending_of nodes (play nodes left steps)

-- The hand stands for this history, what it hands out was given to the writer or is not drained, and these steps and what is behind the
-- script are to come
pub record IsPlaying (run : RunStart) (history : List Entry) (s : Stage) (steps : List (ℕ × ScriptStep)) : Type 0 where
  pub plan : s.hand.core.plan ≡ plan_run run.job
  pub limit : s.hand.core.limit ≡ run.job.limit
  pub same : AreSameFeeds run.feeds s.feeds
  pub later : run.sink.faults ≤ s.sink.faults
  pub follows : Follows s.hand s.feeds history
  pub within : StaysWithin run.job.limit (run_nodes run.job) [] history
  pub given : List Out
  pub all : given ++ s.hand.core.kept.undrained ≡ handed_out run.job.trace (run_nodes run.job) history
  pub taken : s.gathered.results ≡ taken_so_far run.job.form (elements_out given)
  pub written : IsTrue s.sink.told → s.sink.written ≡ run.sink.written ++ flat (shown run.job.form run.job.nodes given)
  pub asked : s.gathered.accepted.asked ≡ run.job.check
  pub kept : HasKept run history s.gathered.accepted
  pub script : HasScript run.job
  pub rest : AllTold run.feeds → whole_of run ≡ history ++ remaining (nodes_from (run_nodes run.job) history) (lefts s) steps
  pub refused : AllTold run.feeds → refused_of run ≡ (play (nodes_from (run_nodes run.job) history) (lefts s) steps).refused

-- all steps were made
pub record HasPlayed (old new : Stage) (steps : List (ℕ × ScriptStep)) : Type 0 where
  pub ready : IsReady new
  pub plan : new.hand.core.plan ≡ old.hand.core.plan
  pub goes : (run : RunStart) (history : List Entry) → IsPlaying run history old steps → (now : List Entry) × IsPlaying run now new []

-- ---- where it stops

-- the entry behind this front of the history is the arrival of a turn of this stream
pub record ArrivesNext (run : RunStart) (front : List Entry) (stream : ℕ) : Type 0 where
  pub next : Entry
  pub back : List Entry
  pub is : front ++ next ∷ back ≡ whole_of run
  pub element : Element
  pub turn : next.event ≡ Arrive stream element

-- where the files are told: what holds of the front of the history behind which it stopped
abbrev pub StopsBehind : RunStop → RunStart → List Entry → List FeedState → Type 0
StopsBehind (Refused line) run front news = (whole_of run ≡ front) × (refused_of run ≡ Some line)
StopsBehind (ReadFault stream) run front news =
    ArrivesNext run front stream × (feed : FeedState) × (slice_get news stream ≡ Some feed)
    × (arrived_at stream front ≡ fed_elements feed.intake.columns feed.source.taken)
StopsBehind (TooLarge stream) run front news = ArrivesNext run front stream × ArrivedOf run.job (files_of run.feeds) stream (2 ^ 40) front
StopsBehind (Limit node) run front news = (reaches : ReachesLimit run.job.limit (run_nodes run.job) (whole_of run) node) × (reaches.front ≡ front)
StopsBehind WriteFailed run front news = ⊤
StopsBehind NoMemory run front news = ⊤
StopsBehind (RunCut stop) run front news = ⊥
StopsBehind (CutRead stream) run front news = ⊥
StopsBehind (CutLarge stream) run front news = ⊥
StopsBehind (CutRefused line) run front news = ⊥

-- it stopped behind a front of the history, and the lines of what was given to the writer were written
pub record StopsStanding (stop : RunStop) (run : RunStart) (s : Stage) : Type 0 where
  pub front : List Entry
  pub back : List Entry
  pub parts : AllTold run.feeds → front ++ back ≡ whole_of run
  pub within : StaysWithin run.job.limit (run_nodes run.job) [] front
  pub script : HasScript run.job
  pub given : List Out
  pub all : given ++ s.hand.core.kept.undrained ≡ handed_out run.job.trace (run_nodes run.job) front
  pub written : IsTrue s.sink.told → s.sink.written ≡ run.sink.written ++ flat (shown run.job.form run.job.nodes given)
  pub behind : AllTold run.feeds → StopsBehind stop run front s.feeds

-- whole first lines of the history's outputs were written, or a front of their bytes
abbrev pub HasLeft : Cut → RunStart → SinkState → Type 0
HasLeft cut run sink =
    AllTold run.feeds → IsTrue sink.told
    → Leaves cut (shown run.job.form run.job.nodes (handed_out run.job.trace (run_nodes run.job) (whole_of run))) run.sink.written sink.written

-- where the sink is told, whatever the files tell: what was written are whole lines, unless a write failed
abbrev pub IsWholeSoFar : RunStop → RunStart → SinkState → Type 0
IsWholeSoFar stop run sink = HasShortNames run.job.nodes → IsTrue sink.told → LeavesWhole (run_cut stop) run.sink.written sink.written

-- how the steps leave the hand and the sink at a stop
abbrev pub StoppedAs : RunStop → RunStart → Stage → Type 0
StoppedAs (Refused line) run s = StopsStanding (Refused line) run s
StoppedAs (ReadFault stream) run s = StopsStanding (ReadFault stream) run s
StoppedAs (TooLarge stream) run s = StopsStanding (TooLarge stream) run s
StoppedAs (Limit node) run s = StopsStanding (Limit node) run s
StoppedAs WriteFailed run s = HasLeft anywhere run s.sink
-- what is not drained stays; or memory was wanting in a drain: then all was handed out, and whole first lines were written
StoppedAs NoMemory run s = StopsStanding NoMemory run s ⊎ ((s.hand.core.kept.undrained ≡ []) × HasLeft between run s.sink)
StoppedAs (RunCut stop) run s = ⊥
StoppedAs (CutRead stream) run s = ⊥
StoppedAs (CutLarge stream) run s = ⊥
StoppedAs (CutRefused line) run s = ⊥

-- the steps stopped
pub record HasStopped (stop : RunStop) (run : RunStart) (s : Stage) : Type 0 where
  pub plan : s.hand.core.plan ≡ plan_run run.job
  pub form : s.gathered.results.form ≡ run.job.form
  pub same : AreSameFeeds run.feeds s.feeds
  pub later : run.sink.faults ≤ s.sink.faults
  pub cause : StopCause stop run s.feeds s.sink
  pub whole : IsWholeSoFar stop run s.sink
  pub stops : StoppedAs stop run s

-- the same of each replay that had these steps to come
abbrev pub StopsSteps : {T : Type 0} → Stage → Stage → List (ℕ × ScriptStep) → Result T RunStop → Type 0
StopsSteps old new steps result = IfErr result (λ stop. (run : RunStart) (history : List Entry) → IsPlaying run history old steps → HasStopped stop run new)

-- a replay stopped: as much of its lines was written as the stop leaves, and why
pub record StopsReplay (stop : RunStop) (run : RunStart) (news : List FeedState) (sink : SinkState) : Type 0 where
  pub same : AreSameFeeds run.feeds news
  pub lines : HasLeft (run_cut stop) run sink
  pub whole : IsWholeSoFar stop run sink
  pub ends : AllTold run.feeds → IsTrue sink.told → StopLeaves stop run news sink.written
  pub causes : StopCause stop run news sink

-- nothing more is to be written: a write failed
abbrev pub is_over : RunStop → Bool
is_over (ReadFault stream) = false
is_over (TooLarge stream) = false
is_over (Limit node) = false
is_over (Refused line) = false
is_over WriteFailed = true
is_over NoMemory = false
is_over (RunCut stop) = true
is_over (CutRead stream) = true
is_over (CutLarge stream) = true
is_over (CutRefused line) = true

-- the output failed behind a stop
abbrev pub failed_behind : RunStop → RunStop
failed_behind (ReadFault stream) = CutRead stream
failed_behind (TooLarge stream) = CutLarge stream
failed_behind (Limit node) = RunCut (CoreLimit node)
failed_behind (Refused line) = CutRefused line
failed_behind WriteFailed = WriteFailed
failed_behind NoMemory = RunCut CoreMemory
failed_behind (RunCut stop) = WriteFailed
failed_behind (CutRead stream) = WriteFailed
failed_behind (CutLarge stream) = WriteFailed
failed_behind (CutRefused line) = WriteFailed

-- a stop behind which what was handed out until then was written or not
abbrev pub left_of : RunStop → Result (Unit {0}) WriteStop → RunStop
left_of stop (Ok u) = stop
left_of stop (Err Failed) = failed_behind stop
left_of stop (Err WriteMemory) = NoMemory

-- the same of each replay that had these steps to come
abbrev pub EndsSteps : RunStop → Stage → List FeedState → SinkState → List (ℕ × ScriptStep) → Type 0
EndsSteps stop old news sink steps = (run : RunStart) (history : List Entry) → IsPlaying run history old steps → StopsReplay stop run news sink

-- for each replay whose steps were all made, and to whose streams all that is accepted arrives
abbrev pub WherePlayed : Stage → (RunStart → Type 0) → Type 0
WherePlayed s Holds = (run : RunStart) (history : List Entry) → IsPlaying run history s [] → (AllTold run.feeds → BringsAll run) → Holds run
