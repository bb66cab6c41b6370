-- What the workers of a crew did, each on a seat of its own of one history, and how they ended.
use Rattle.std.specs.Prelude.{ℕ, ◌<◌, ◌≡◌, All, Bool, true, false, List, [], ◌++◌, length, Option, Some, None, slice_get}
use Rattle.pj_events.specs.declared.events.Entry.{Entry}
use Rattle.pj_events.specs.declared.events.Stop.{Stop}
use Rattle.pj_feed.specs.Feeds.{FeedState, IsSameFeed}
use Rattle.pj_laws.specs.Seats.{HubPlan, KeptByPlan, KeptBySeats, made_by}
use Rattle.pj_workers.specs.Ends.{Probes, Sweeps}
use Rattle.pj_workers.specs.Feeds.{Feeds, HasFed, has_ended}
use Rattle.pj_workers.specs.Writes.{Writes}
use Rattle.pj_workers.specs.declared.ends.WorkEnd.{WorkEnd}
use Rattle.pj_workers.specs.declared.ends.WorkEnd.TheVariants.{Over, NoMemory, Stopped}
use Rattle.pj_workers.specs.declared.feeding.FeedEnd.{FeedEnd}
use Rattle.pj_workers.specs.declared.feeding.FeedEnd.TheVariants.{Ended, Halted, ReadFault, ByteLimit, NoMemory as FeedMemory, Stopped as FeedStopped}
use Rattle.pj_workers.specs.declared.writing.WriteEnd.{WriteEnd}
use Rattle.pj_workers.specs.declared.writing.WriteEnd.TheVariants.{Over as WriteOver, WriteFault, NoMemory as WriteMemory}

-- ---- one worker

-- what one worker did: a feeder, which took its feed from one state to another; a prober; a sweeper of these places; the writer
pub data Act : Type 0 where
  Fed : FeedState → FeedState → FeedEnd → Act
  Probed : WorkEnd → Act
  Swept : List (ℕ × ℕ) → WorkEnd → Act
  Wrote : WriteEnd → Act

-- the seat of this number, which had seen nothing, did this, and has seen this
abbrev pub HasActed : HubPlan → ℕ → List Entry → Act → Type 0
HasActed hub seat seen (Fed old new end) = IsSameFeed old new × Feeds hub seat new [] seen end × HasFed hub seat (made_by seat seen) old new end
HasActed hub seat seen (Probed end) = Probes hub seat [] seen end
HasActed hub seat seen (Swept places end) = Sweeps hub seat places [] seen end
HasActed hub seat seen (Wrote end) = Writes hub seat [] seen end

-- ---- how workers ended

abbrev pub is_work_whole : WorkEnd → Bool
is_work_whole Over = true
is_work_whole NoMemory = false
is_work_whole (Stopped stop) = false

abbrev pub is_write_whole : WriteEnd → Bool
is_write_whole WriteOver = true
is_write_whole WriteFault = false
is_write_whole WriteMemory = false

-- a feeder ended its stream; another worker was over
abbrev pub is_whole : Act → Bool
is_whole (Fed old new end) = has_ended end
is_whole (Probed end) = is_work_whole end
is_whole (Swept places end) = is_work_whole end
is_whole (Wrote end) = is_write_whole end

abbrev pub is_feed_fault : FeedEnd → Bool
is_feed_fault Ended = false
is_feed_fault Halted = false
is_feed_fault ReadFault = true
is_feed_fault ByteLimit = true
is_feed_fault FeedMemory = true
is_feed_fault (FeedStopped stop) = false

abbrev pub is_work_fault : WorkEnd → Bool
is_work_fault Over = false
is_work_fault NoMemory = true
is_work_fault (Stopped stop) = false

abbrev pub is_write_fault : WriteEnd → Bool
is_write_fault WriteOver = false
is_write_fault WriteFault = true
is_write_fault WriteMemory = true

-- it halted the run: by a fault or for want of memory
abbrev pub is_fault : Act → Bool
is_fault (Fed old new end) = is_feed_fault end
is_fault (Probed end) = is_work_fault end
is_fault (Swept places end) = is_work_fault end
is_fault (Wrote end) = is_write_fault end

abbrev pub feed_stop : FeedEnd → Option Stop
feed_stop Ended = None
feed_stop Halted = None
feed_stop ReadFault = None
feed_stop ByteLimit = None
feed_stop FeedMemory = None
feed_stop (FeedStopped stop) = Some stop

abbrev pub work_stop : WorkEnd → Option Stop
work_stop Over = None
work_stop NoMemory = None
work_stop (Stopped stop) = Some stop

-- the stop that a call of it was refused with
abbrev pub stop_told : Act → Option Stop
stop_told (Fed old new end) = feed_stop end
stop_told (Probed end) = work_stop end
stop_told (Swept places end) = work_stop end
stop_told (Wrote end) = None

abbrev pub is_writer : Act → Bool
is_writer (Fed old new end) = false
is_writer (Probed end) = false
is_writer (Swept places end) = false
is_writer (Wrote end) = true

-- ---- a crew

-- what a seat has seen begins the history and has all entries of its own
pub record SawFront (seat : ℕ) (seen history : List Entry) : Type 0 where
  pub behind : List Entry
  pub begins : history ≡ seen ++ behind
  pub no_own : made_by seat behind ≡ []

-- The one history of a crew, of which each seat did one of these: it has what a hub keeps of it, and no entry but those of the seats
pub record IsCrewHistory (hub : HubPlan) (acts : List Act) (history : List Entry) : Type 0 where
  pub by_plan : KeptByPlan hub history
  pub by_seats : KeptBySeats history
  pub of_seats : All (λ (entry : Entry). entry.seat < length acts) history
  pub each : (seat : ℕ) (act : Act) → slice_get acts seat ≡ Some act → (seen : List Entry) × SawFront seat seen history × HasActed hub seat seen act
