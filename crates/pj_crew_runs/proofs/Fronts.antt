-- What arrives in the history of a crew that runs a job.
use Rattle.std.proofs.Common.{ℕ, ◌<◌, true, List, [], ◌∷◌, ◌++◌, ◌≡◌, Some, get_or, length, slice_get, refl, sym, ap₂, ◌∙◌, arith}
use Rattle.std.proofs.lemmas.Bool.{false≢true}
use Rattle.std.proofs.lemmas.Option.{slice_get-get_or}
use Rattle.pj_shape.specs.declared.columns.Column.{Column}
use Rattle.pj_pattern.specs.declared.element.Element.{Element}
use Rattle.pj_element.specs.Accepted.{fates_of, taken_of}
use Rattle.pj_events.specs.declared.events.Entry.{Entry}
use Rattle.pj_events.specs.History.{streams_of}
use Rattle.pj_laws.specs.HistoryLaws.{closed_list}
use Rattle.pj_plan.specs.Nodes.{streams_in}
use Rattle.pj_plan.specs.Sound.{IsSoundPlan}
use Rattle.pj_core.proofs.Planned.{planned}
use Rattle.pj_feed.specs.Feeds.{FeedState, IsSameFeed, accepted_of, all_accepted, files_of}
use Rattle.pj_feed.proofs.AllFeeds.{accepted_of_feed, feeds_long, one_of, told_at}
use Rattle.pj_run.specs.Jobs.{Job}
use Rattle.pj_run.specs.Runs.{plan_run, run_nodes}
use Rattle.pj_run.proofs.Accepting.{count-streams}
use Rattle.pj_seats.specs.Answers.{closing_of}
use Rattle.pj_workers.specs.Feeds.{all_of, has_ended}
use Rattle.pj_workers.specs.declared.feeding.FeedEnd.{FeedEnd}
use Rattle.pj_workers.specs.declared.feeding.FeedEnd.TheVariants.{Ended, Halted, ReadFault, ByteLimit, NoMemory, Stopped}
use Rattle.pj_crew_laws.specs.Acts.{Act, Fed}
use Rattle.pj_crew_laws.specs.Crews.{ArrivesOf}
use Rattle.pj_crew_laws.proofs.Arriving.{feeders-bring}
use Rattle.pj_crew_runs.specs.Runs.{BringsFronts, FedFrom, IsCrewRun, OfCrewRuns, hub_of}

-- a feeder that ended so ended its stream
pub ended-is : (end : FeedEnd) → has_ended end ≡ true → end ≡ Ended
ended-is Ended is = refl
ended-is Halted is = absurd (false≢true is)
ended-is ReadFault is = absurd (false≢true is)
ended-is ByteLimit is = absurd (false≢true is)
ended-is NoMemory is = absurd (false≢true is)
ended-is (Stopped stop) is = absurd (false≢true is)

module _ (job : Job) (sound : IsSoundPlan job.nodes) (feeds : List FeedState) (acts : List Act) (history : List Entry) (run : IsCrewRun job feeds acts history) where
  -- the feed of a stream
  pub feed-there : (stream : ℕ) → stream < length (streams_of (run_nodes job)) → (feed : FeedState) × (slice_get feeds stream ≡ Some feed)
  feed-there stream lt = first feeds (omega (arith, lt, count-streams job, feeds_long 0 (streams_in job.nodes) feeds run.of_streams))
    where
      first : (fs : List FeedState) → stream < length fs → (feed : FeedState) × (slice_get fs stream ≡ Some feed)
      first [] lt' = absurd (omega (arith, lt'))
      first (f ∷ fs) lt' = (get_or (f ∷ fs) stream f, slice_get-get_or (f ∷ fs) stream f lt')

  -- what is accepted of its file
  pub accepted-is : (stream : ℕ) (feed new : FeedState) → slice_get feeds stream ≡ Some feed → IsSameFeed feed new → get_or (accepted_of (streams_in job.nodes) (files_of feeds)) stream [] ≡ all_accepted new
  accepted-is stream feed new at same =
      accepted_of_feed 0 (streams_in job.nodes) feeds stream feed run.of_streams at
      ∙ sym (ap₂ (λ (columns : List Column) (bytes : List ℕ). taken_of (fates_of columns bytes)) same.columns (same.bytes (told_at feeds stream feed run.told at)))

  -- the number of its stream
  pub number-is : (stream : ℕ) (feed new : FeedState) → slice_get feeds stream ≡ Some feed → IsSameFeed feed new → new.stream ≡ stream
  number-is stream feed new at same = same.stream ∙ ((one_of 0 (streams_in job.nodes) feeds stream feed run.of_streams at).is_number ∙ omega (arith))

  -- all that its file brings
  pub brought-is : (stream : ℕ) (feed new : FeedState) → slice_get feeds stream ≡ Some feed → IsSameFeed feed new → all_of (hub_of job) new ≡ closed_list (run_nodes job) (accepted_of (streams_in job.nodes) (files_of feeds)) stream
  brought-is stream feed new at same =
      ap₂ (λ (es : List Element) (s : ℕ). es ++ closing_of (hub_of job) s ∷ []) (sym (accepted-is stream feed new at same)) (number-is stream feed new at same)

  -- what arrived at a stream
  pub arrives : (stream : ℕ) (feed : FeedState) → slice_get feeds stream ≡ Some feed → (fed : FedFrom acts stream feed) × ArrivesOf (hub_of job) history stream fed.new fed.end
  arrives stream feed at =
      let fed = run.fed stream feed at in
      (fed, feeders-bring (hub_of job) (planned (plan_run job) sound) acts history run.crew stream feed fed.new fed.end fed.did (told_at feeds stream feed run.told at))

  pub same-feed : (stream : ℕ) (feed : FeedState) (fed : FedFrom acts stream feed) → IsSameFeed feed fed.new
  same-feed stream feed fed = (run.crew.each stream (Fed feed fed.new fed.end) fed.did).2.0

pub brings-fronts : OfCrewRuns BringsFronts
brings-fronts job sound certified feeds acts history run = record {
  legal = run.crew.by_plan.legal;
  within = run.crew.by_plan.within;
  arrived = λ stream lt.
      let there = feed-there job sound feeds acts history run stream lt in
      let a = arrives job sound feeds acts history run stream there.0 there.1 in
      let is = brought-is job sound feeds acts history run stream there.0 a.0.new there.1 (same-feed job sound feeds acts history run stream there.0 a.0) in
      (a.1.front.0, sym a.1.front.1 ∙ is);
}
