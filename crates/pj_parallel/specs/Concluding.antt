-- What is gathered once a run with workers was made to its end.
use Rattle.std.specs.Prelude.{◌≡◌, Bool, List, None, Result, Ok, Err}
use Rattle.pj_io.specs.States.{SinkState}
use Rattle.pj_core.specs.Cores.{CoreState}
use Rattle.pj_feed.specs.Feeds.{AreAllTaken, FeedState, files_of, tallies_in, tallies_of}
use Rattle.pj_plan.specs.Nodes.{streams_in}
use Rattle.pj_report.specs.declared.writer.ResultWriter.{ResultWriter}
use Rattle.pj_run.specs.Jobs.{Job}
use Rattle.pj_run.specs.Outcome.{AreAccepted}
use Rattle.pj_run.specs.Runs.{accepted_rows}
use Rattle.pj_run.specs.declared.stops.RunStop.{RunStop}
use Rattle.pj_crew.specs.declared.crew.Ended.{Ended}
use Rattle.pj_roster.specs.Dismissed.{causes_in, rows_in}
use Rattle.pj_parallel.specs.declared.run.Settled.{Settled}
use Rattle.pj_parallel.specs.Closing.{Closes, first_of, run_state}
use Rattle.pj_parallel.specs.Parallel.{IsDone}

-- a run was closed, and this was gathered
pub record IsConcluded {S : Type 0} (check : Bool) (ended : Ended S) (sink sink' : SinkState) (settled : Settled) : Type 0 where
  pub closes : Closes (first_of (causes_in ended.duties.items)) ended.end (run_state ended.core ended.results sink) (run_state settled.core settled.gathered.results sink') (Ok tt)
  pub asked : settled.gathered.accepted.asked ≡ check
  pub rows : settled.gathered.accepted.lists.items ≡ rows_in ended.duties.items

-- a run was closed, and stopped so
pub record IsCutShort {S : Type 0} (ended : Ended S) (sink sink' : SinkState) (stop : RunStop) : Type 0 where
  pub core : CoreState
  pub results : ResultWriter
  pub closes : Closes (first_of (causes_in ended.duties.items)) ended.end (run_state ended.core ended.results sink) (run_state core results sink') (Err stop)

abbrev pub Concludes : {S : Type 0} → Bool → Ended S → SinkState → SinkState → Result Settled RunStop → Type 0
Concludes check ended sink sink' (Ok settled) = IsConcluded check ended sink sink' settled
Concludes check ended sink sink' (Err stop) = IsCutShort ended sink sink' stop

-- The run is done; nothing stopped; its counts are those of the files, which were read to their ends; and where a check asks for them the
-- rows are those that were accepted
pub record Gathers (job : Job) (feeds news : List FeedState) (sink sink' : SinkState) (settled : Settled) : Type 0 where
  pub done : IsDone job feeds settled.core settled.gathered.results sink sink'
  pub on : settled.core.kept.stop ≡ None
  pub tallies : tallies_in news ≡ tallies_of (streams_in job.nodes) (files_of feeds)
  pub taken : AreAllTaken news
  pub asked : settled.gathered.accepted.asked ≡ job.check
  pub rows : AreAccepted (accepted_rows job (files_of feeds)) settled.gathered.accepted
