-- What is taken back of the duties of a crew that has ended.
use Rattle.std.specs.Prelude.{ℕ, true, false, List, [], ◌∷◌, ◌++◌, Option, Some, None}
use Rattle.pj_value.specs.declared.values.Value.{Value}
use Rattle.pj_events.specs.declared.events.Stop.{Stop}
use Rattle.pj_events.specs.declared.events.Stop.TheVariants.{Limit, NoMemory}
use Rattle.pj_feed.specs.Feeds.{FeedState}
use Rattle.pj_workers.specs.declared.ends.WorkEnd.{WorkEnd}
use Rattle.pj_workers.specs.declared.ends.WorkEnd.TheVariants.{Over, NoMemory as WorkMemory, Stopped as WorkStopped}
use Rattle.pj_workers.specs.declared.feeding.FeedEnd.{FeedEnd}
use Rattle.pj_workers.specs.declared.feeding.FeedEnd.TheVariants.{Ended, Halted, ReadFault, ByteLimit, NoMemory as FeedMemory, Stopped as FeedStopped}
use Rattle.pj_crew.specs.declared.duties.Duty.{Duty}
use Rattle.pj_crew.specs.declared.duties.Duty.TheVariants.{Feed, Probe, Sweep}
use Rattle.pj_roster.specs.declared.causes.Causes.{Causes}

-- ---- feeds and rows

-- the feed of a feeder
abbrev pub feed_of_duty : {S : Type 0} → Duty S → List FeedState
feed_of_duty (Feed stream feed kept end) = feed ∷ []
feed_of_duty (Probe index end) = []
feed_of_duty (Sweep index places end) = []

-- the feeds of feeders, in order
abbrev pub feeds_in : {S : Type 0} → List (Duty S) → List FeedState
feeds_in [] = []
feeds_in (duty ∷ duties) = feed_of_duty duty ++ feeds_in duties

-- rows that were kept, where they were asked for
abbrev pub kept_in : Option (List (List Value)) → List (List (List Value))
kept_in None = []
kept_in (Some rows) = rows ∷ []

-- the rows of a feeder that keeps
abbrev pub rows_of_duty : {S : Type 0} → Duty S → List (List (List Value))
rows_of_duty (Feed stream feed kept end) = kept_in kept
rows_of_duty (Probe index end) = []
rows_of_duty (Sweep index places end) = []

-- the rows that feeders kept which keep, in order
abbrev pub rows_in : {S : Type 0} → List (Duty S) → List (List (List Value))
rows_in [] = []
rows_in (duty ∷ duties) = rows_of_duty duty ++ rows_in duties

-- ---- causes

abbrev pub no_causes : Causes
no_causes = record { memory = false; read = None; node = None; file = None }

-- the first number that was set, or this
abbrev pub with_first : Option ℕ → ℕ → Option ℕ
with_first None number = Some number
with_first (Some first) number = Some first

abbrev pub with_memory : Causes → Causes
with_memory causes = record { memory = true; read = causes.read; node = causes.node; file = causes.file }

abbrev pub with_read : Causes → ℕ → Causes
with_read causes stream = record { memory = causes.memory; read = with_first causes.read stream; node = causes.node; file = causes.file }

abbrev pub with_node : Causes → ℕ → Causes
with_node causes node = record { memory = causes.memory; read = causes.read; node = with_first causes.node node; file = causes.file }

abbrev pub with_file : Causes → ℕ → Causes
with_file causes stream = record { memory = causes.memory; read = causes.read; node = causes.node; file = with_first causes.file stream }

-- a worker was told this stop
abbrev pub with_stop : Causes → Stop → Causes
with_stop causes (Limit node) = with_node causes node
with_stop causes NoMemory = with_memory causes

-- the feeder of a stream ended so
abbrev pub with_feed_end : Causes → ℕ → FeedEnd → Causes
with_feed_end causes stream Ended = causes
with_feed_end causes stream Halted = causes
with_feed_end causes stream ReadFault = with_read causes stream
with_feed_end causes stream ByteLimit = with_file causes stream
with_feed_end causes stream FeedMemory = with_memory causes
with_feed_end causes stream (FeedStopped stop) = with_stop causes stop

-- a prober or a sweeper ended so
abbrev pub with_work_end : Causes → WorkEnd → Causes
with_work_end causes Over = causes
with_work_end causes WorkMemory = with_memory causes
with_work_end causes (WorkStopped stop) = with_stop causes stop

-- the worker of a duty ended so
abbrev pub with_duty : {S : Type 0} → Causes → Duty S → Causes
with_duty causes (Feed stream feed kept end) = with_feed_end causes stream end
with_duty causes (Probe index end) = with_work_end causes end
with_duty causes (Sweep index places end) = with_work_end causes end

-- what is counted of these, behind what was counted before
abbrev pub causes_from : {S : Type 0} → Causes → List (Duty S) → Causes
causes_from causes [] = causes
causes_from causes (duty ∷ duties) = causes_from (with_duty causes duty) duties

-- what is counted of all of these
abbrev pub causes_in : {S : Type 0} → List (Duty S) → Causes
causes_in duties = causes_from no_causes duties
