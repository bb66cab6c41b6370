-- More elements come to nodes than may.
use Rattle.std.specs.Prelude.{ℕ, ◌<◌, ◌≡◌, true, List, [], ◌++◌, Some}
use Rattle.pj_algebra.specs.Answers.{IsCounted}
use Rattle.pj_events.specs.declared.events.Entry.{Entry}
use Rattle.pj_events.specs.declared.events.Stop.TheVariants.{Limit}
use Rattle.pj_events.specs.Limits.{BeginsBeyond, StaysWithin}
use Rattle.pj_core.specs.Cores.{CoreState, StandsFor}
use Rattle.pj_core.specs.Turns.{working}
use Rattle.pj_feed.specs.Feeds.{FeedState, files_of}
use Rattle.pj_run.specs.Jobs.{Job}
use Rattle.pj_run.specs.Runs.{elements_to, plan_run, run_nodes}
use Rattle.pj_crew_laws.specs.Acts.{Act, stop_told}
use Rattle.pj_crew_laws.specs.Crews.{AllWhole, Did}

-- to this join or group more elements come in all than may
pub record ComesBeyond (job : Job) (files : List (List ℕ)) (node : ℕ) : Type 0 where
  pub counted : IsCounted job.nodes node
  pub many : job.limit < elements_to job files node

-- a worker tells the limit of a node only where more elements come to that in all
abbrev pub LimitsHaveCause : Job → List FeedState → List Act → List Entry → Type 0
LimitsHaveCause job feeds acts history = (seat node : ℕ) (act : Act) → Did acts seat act → stop_told act ≡ Some (Limit node) → ComesBeyond job (files_of feeds) node

-- and so it is where the limit is met as the core is settled, once every worker has done all of its duty
abbrev pub SettlingLimitsHaveCause : Job → List FeedState → List Act → List Entry → Type 0
SettlingLimitsHaveCause job feeds acts history =
    AllWhole acts → (core : CoreState) → core.plan ≡ plan_run job → core.limit ≡ job.limit → StandsFor core history → (front back : List Entry) (node : ℕ) → working true core history ≡ front ++ back
    → StaysWithin job.limit (run_nodes job) [] (history ++ front) → BeginsBeyond job.limit (run_nodes job) (history ++ front) back node → ComesBeyond job (files_of feeds) node
