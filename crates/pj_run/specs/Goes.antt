-- A run that has begun, how far it has gone, and where it stops.
use Rattle.std.specs.Prelude.{◌≡◌, ◌<◌, ◌≤◌, ◌^◌, ℕ, ⊤, true, List, [], ◌++◌, length, Option, Result, Some, IsTrue, slice_get, slice_index_or, IfErr}
use Rattle.pj_io.specs.Causes.{Rose}
use Rattle.pj_io.specs.States.{SinkState}
use Rattle.pj_plan.specs.Nodes.{streams_in}
use Rattle.pj_element.specs.Runs.{rows_of}
use Rattle.pj_events.specs.declared.events.Entry.{Entry}
use Rattle.pj_events.specs.declared.events.Stop.{Stop}
use Rattle.pj_events.specs.declared.events.Stop.TheVariants.{Limit as CoreLimit, NoMemory as CoreMemory}
use Rattle.pj_events.specs.History.{IsLegal, nodes_from, streams_of}
use Rattle.pj_events.specs.Limits.{ReachesLimit, StaysWithin}
use Rattle.pj_events.specs.OneThread.{Turn, turns_entries}
use Rattle.pj_events.specs.Outcomes.{elements_of as arrived_at, elements_out, outputs_of as handed_out}
use Rattle.pj_laws.specs.HistoryLaws.{closed_list}
use Rattle.pj_core.specs.Cores.{CoreState, StandsFor}
use Rattle.pj_feed.specs.Feeds.{FeedState, AllTold, AreSameFeeds, accepted_of, bytes_of, feeds_left, files_of, tallies_in}
use Rattle.pj_report.specs.declared.writer.ResultWriter.{ResultWriter}
use Rattle.pj_report.specs.Forms.{taken_so_far}
use Rattle.pj_run.specs.declared.checking.AcceptedRows.{AcceptedRows}
use Rattle.pj_run.specs.declared.run.Gathered.{Gathered}
use Rattle.pj_run.specs.declared.stops.RunStop.{RunStop}
use Rattle.pj_run.specs.declared.stops.RunStop.TheVariants.{ReadFault, TooLarge, Limit, Refused, WriteFailed, NoMemory, Cut, CutRead, CutLarge, CutRefused}
use Rattle.pj_run.specs.Ends.{lines_until}
use Rattle.pj_run.specs.Jobs.{HasScript, Job}
use Rattle.pj_run.specs.Outcome.{IsOutcome}
use Rattle.pj_run.specs.RunEnds.{StoppedTurns, TurnsWrite}
use Rattle.pj_run.specs.Runs.{history_of, plan_run, refused_line, run_nodes, StaysInLimit}
use Rattle.pj_run.specs.Turning.{TurnsEnd}

-- what is run, and its feeds and its sink at the beginning
pub record RunStart : Type 0 where
  pub job : Job
  pub feeds : List FeedState
  pub sink : SinkState

-- the history that it makes
abbrev pub whole_of : RunStart → List Entry
whole_of run = history_of run.job (files_of run.feeds)

-- the line of the step that is not enabled, if that is why its history ends
abbrev pub refused_of : RunStart → Option ℕ
refused_of run = refused_line run.job (files_of run.feeds)

-- the history is legal, and to each stream all that is accepted of its file arrives, and its closing
pub record BringsAll (run : RunStart) : Type 0 where
  pub legal : IsLegal (run_nodes run.job) (whole_of run)
  pub elements : (stream : ℕ) → stream < length (streams_of (run_nodes run.job))
      → arrived_at stream (whole_of run) ≡ closed_list (run_nodes run.job) (accepted_of (streams_in run.job.nodes) (files_of run.feeds)) stream

-- ---- where a run stops

-- what a stop leaves of the lines
abbrev pub StopLeaves : RunStop → RunStart → List FeedState → List ℕ → Type 0
StopLeaves stop run news lines = TurnsEnd stop run.job (files_of run.feeds) news run.sink.written lines

-- an entry of the history is its first that brings an element beyond the limit
abbrev pub CoreCause : Stop → RunStart → Type 0
CoreCause (CoreLimit node) run = ReachesLimit run.job.limit (run_nodes run.job) (whole_of run) node
CoreCause CoreMemory run = ⊤

-- why it stopped: a source has faults, a file gave too many bytes, an element went beyond a limit, a step is not enabled, or the sink's
-- faults rose, behind such a stop or without one; behind a read that failed only where there is a script; memory may be wanting at any time
abbrev pub StopCause : RunStop → RunStart → List FeedState → SinkState → Type 0
StopCause (ReadFault stream) run news sink = (feed : FeedState) × (slice_get news stream ≡ Some feed) × (1 ≤ feed.source.faults)
StopCause (TooLarge stream) run news sink =
    (feed : FeedState) × (slice_get run.feeds stream ≡ Some feed) × (IsTrue feed.source.told → 2 ^ 40 ≤ length (bytes_of feed))
StopCause (Limit node) run news sink = AllTold run.feeds → ReachesLimit run.job.limit (run_nodes run.job) (whole_of run) node
StopCause (Refused line) run news sink = HasScript run.job × (AllTold run.feeds → refused_of run ≡ Some line)
StopCause WriteFailed run news sink = Rose run.sink.faults sink.faults
StopCause NoMemory run news sink = ⊤
StopCause (Cut stop) run news sink = Rose run.sink.faults sink.faults × (AllTold run.feeds → CoreCause stop run)
StopCause (CutRead stream) run news sink =
    Rose run.sink.faults sink.faults × (feed : FeedState) × (slice_get news stream ≡ Some feed) × (1 ≤ feed.source.faults) × HasScript run.job
StopCause (CutLarge stream) run news sink =
    Rose run.sink.faults sink.faults × (feed : FeedState) × (slice_get run.feeds stream ≡ Some feed)
    × (IsTrue feed.source.told → 2 ^ 40 ≤ length (bytes_of feed)) × HasScript run.job
StopCause (CutRefused line) run news sink = Rose run.sink.faults sink.faults × HasScript run.job × (AllTold run.feeds → refused_of run ≡ Some line)

-- where the files and the sink are told: the lines of the history's outputs were written, or as much of them as the stop leaves
abbrev pub WritesRun : {T : Type 0} → RunStart → SinkState → Result T RunStop → Type 0
WritesRun run sink result = TurnsWrite run.job run.feeds run.sink sink result

-- where they are told: what the stop leaves
abbrev pub StopsRun : {T : Type 0} → RunStart → List FeedState → SinkState → Result T RunStop → Type 0
StopsRun run news sink result = StoppedTurns run.job run.feeds news run.sink sink result

-- why it stopped, if it did
abbrev pub CausesRun : {T : Type 0} → RunStart → List FeedState → SinkState → Result T RunStop → Type 0
CausesRun run news sink result = IfErr result (λ stop. StopCause stop run news sink)

-- ---- how far a run has gone

-- The core stands for a front of the history, and these turns make the rest; the writer has taken what the front hands out
pub record HasMade (run : RunStart) (history : List Entry) (core : CoreState) (left : List Turn) (results : ResultWriter) : Type 0 where
  pub stands : StandsFor core history
  pub rest : history ++ turns_entries true (nodes_from (run_nodes run.job) history) left ≡ whole_of run
  pub brings : BringsAll run
  pub within : StaysWithin run.job.limit (run_nodes run.job) [] history
  pub taken : results ≡ taken_so_far run.job.form (elements_out (handed_out run.job.trace (run_nodes run.job) history))

-- the rows that have arrived are kept, where they are asked for
abbrev pub HasKept : RunStart → List Entry → AcceptedRows → Type 0
HasKept run history accepted =
    accepted.asked ≡ true → (s : ℕ) → s < length (streams_in run.job.nodes)
    → slice_index_or accepted.lists.items s [] ≡ rows_of (arrived_at s history)

-- the feeds are those of the beginning, and where they are told, the run has made this history, and written its lines
pub record IsGoing (run : RunStart) (history : List Entry) (core : CoreState) (feeds : List FeedState) (at : ℕ) (gathered : Gathered) (sink : SinkState) : Type 0 where
  pub plan : core.plan ≡ plan_run run.job
  pub limit : core.limit ≡ run.job.limit
  pub form : gathered.results.form ≡ run.job.form
  pub asked : gathered.accepted.asked ≡ run.job.check
  pub same : AreSameFeeds run.feeds feeds
  pub later : run.sink.faults ≤ sink.faults
  pub made : AllTold run.feeds → HasMade run history core (feeds_left (streams_in run.job.nodes) feeds at) gathered.results
  pub kept : AllTold run.feeds → HasKept run history gathered.accepted
  pub written : AllTold run.feeds → IsTrue sink.told → sink.written ≡ run.sink.written ++ lines_until run.job history

-- for each run that has gone so far
abbrev pub WhereGoing : CoreState → List FeedState → ℕ → Gathered → SinkState → (RunStart → Type 0) → Type 0
WhereGoing core feeds at gathered sink Holds = (run : RunStart) (history : List Entry) → IsGoing run history core feeds at gathered sink → Holds run

-- the rows of each stream, where they are asked for, have a list
abbrev pub HasLists : ℕ → AcceptedRows → Type 0
HasLists streams accepted = accepted.asked ≡ true → length accepted.lists.items ≡ streams

-- where the files are told: what a run that was made to its end leaves
pub record EndsRun (run : RunStart) (core : CoreState) (feeds : List FeedState) (gathered : Gathered) : Type 0 where
  pub stands : AllTold run.feeds → StandsFor core (whole_of run)
  pub within : AllTold run.feeds → StaysInLimit run.job (files_of run.feeds)
  pub gathers : AllTold run.feeds → IsOutcome run.job (files_of run.feeds) (tallies_in feeds) gathered
