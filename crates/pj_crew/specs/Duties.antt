-- What workers do beside the writer, and what they have done.
use Rattle.std.specs.Prelude.{ℕ, ◌+◌, ◌<◌, ◌≡◌, List, [], ◌∷◌, length, Option, IsTrue}
use Rattle.pj_value.specs.declared.values.Value.{Value}
use Rattle.pj_pattern.specs.Elements.{rows_of}
use Rattle.pj_events.specs.History.{streams_of}
use Rattle.pj_feed.specs.Feeds.{FeedState}
use Rattle.pj_laws.specs.Seats.{HubPlan}
use Rattle.pj_workers.specs.Rounds.{AreInputs}
use Rattle.pj_workers.specs.Feeds.{IsFeeding, OnEnded, all_of, with_rows}
use Rattle.pj_workers.specs.declared.feeding.FeedEnd.{FeedEnd}
use Rattle.pj_crew_laws.specs.Acts.{Act, Fed, Probed, Swept}
use Rattle.pj_crew.specs.declared.duties.Duty.{Duty}
use Rattle.pj_crew.specs.declared.duties.Duty.TheVariants.{Feed, Probe, Sweep}

-- ---- before

-- a worker may begin on the seat of this number: a feeder on that of its stream, of which nothing has come; a sweeper where its places
-- are joins of the plan and inputs of theirs
abbrev pub MayBegin : {S : Type 0} → HubPlan → ℕ → Duty S → Type 0
MayBegin hub seat (Feed stream feed kept end) = (stream ≡ seat) × (seat < length (streams_of hub.nodes)) × IsFeeding hub seat [] feed
MayBegin hub seat (Probe index end) = Unit {0}
MayBegin hub seat (Sweep index places end) = AreInputs hub.nodes places

-- the same of these duties, on the seats from this number on
abbrev pub MayBeginFrom : {S : Type 0} → HubPlan → ℕ → List (Duty S) → Type 0
MayBeginFrom hub seat [] = Unit {0}
MayBeginFrom hub seat (duty ∷ duties) = MayBegin hub seat duty × MayBeginFrom hub (seat + 1) duties

-- ---- after

-- a feeder took its feed from one state to this
abbrev pub act_from : {S : Type 0} → FeedState → Duty S → Act
act_from old (Feed stream new kept end) = Fed old new end
act_from old (Probe index end) = Probed end
act_from old (Sweep index places end) = Swept places end

-- what a worker did, by its duty before and after
abbrev pub act_of : {S : Type 0} → Duty S → Duty S → Act
act_of (Feed stream old kept end) new = act_from old new
act_of (Probe index end) (Feed stream new kept how) = Fed new new how
act_of (Probe index end) (Probe same how) = Probed how
act_of (Probe index end) (Sweep same places how) = Swept places how
act_of (Sweep index places end) (Feed stream new kept how) = Fed new new how
act_of (Sweep index places end) (Probe same how) = Probed how
act_of (Sweep index places end) (Sweep same now how) = Swept now how

abbrev pub acts_of : {S : Type 0} → List (Duty S) → List (Duty S) → List Act
acts_of [] news = []
acts_of (old ∷ olds) [] = []
acts_of (old ∷ olds) (new ∷ news) = act_of old new ∷ acts_of olds news

-- where a file tells its bytes and its feeder how, all rows that are accepted of it were kept, where they were asked for
abbrev pub KeepsAll : HubPlan → FeedState → FeedState → Option (List (List Value)) → Option (List (List Value)) → FeedEnd → Type 0
KeepsAll hub old new kept now end = IsTrue old.source.told → OnEnded end (now ≡ with_rows kept (rows_of (all_of hub new)))

-- it is the same duty still, and a feeder kept what it was asked to keep
abbrev pub IsSameDuty : {S : Type 0} → HubPlan → Duty S → Duty S → Type 0
IsSameDuty hub (Feed stream feed kept end) (Feed same new now how) = (same ≡ stream) × KeepsAll hub feed new kept now how
IsSameDuty hub (Feed stream feed kept end) (Probe index how) = ⊥
IsSameDuty hub (Feed stream feed kept end) (Sweep index places how) = ⊥
IsSameDuty hub (Probe index end) (Feed stream new now how) = ⊥
IsSameDuty hub (Probe index end) (Probe same how) = same ≡ index
IsSameDuty hub (Probe index end) (Sweep same places how) = ⊥
IsSameDuty hub (Sweep index places end) (Feed stream new now how) = ⊥
IsSameDuty hub (Sweep index places end) (Probe same how) = ⊥
IsSameDuty hub (Sweep index places end) (Sweep same now how) = (same ≡ index) × (now ≡ places)
