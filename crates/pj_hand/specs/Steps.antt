-- What the calls of a hand make, each one step of a replay.
use Rattle.std.specs.Prelude.{ℕ, ◌≡◌, ◌⊎◌, Bool, true, false, List, [], ◌∷◌, ◌++◌, Option, Some, None}
use Rattle.pj_events.specs.declared.events.Entry.{Entry}
use Rattle.pj_events.specs.declared.events.Event.{Event}
use Rattle.pj_events.specs.declared.events.Event.TheVariants.{Stopped, Give as Given}
use Rattle.pj_events.specs.declared.events.Stop.{Stop}
use Rattle.pj_events.specs.declared.events.Stop.TheVariants.{Limit, NoMemory}
use Rattle.pj_events.specs.OneThread.{Turn, plain}
use Rattle.pj_events.specs.Outcomes.{goes_beyond}
use Rattle.pj_probe.specs.declared.probe.Found.{Found}
use Rattle.pj_core.specs.Calls.{HasGiven, HasRoomFor, IsGiveCause, StopsNow}
use Rattle.pj_core.specs.Cores.{CoreState, MayFollow, StandsFor, nodes_after, nodes_in}
use Rattle.pj_script.specs.declared.step.ScriptStep.{ScriptStep}
use Rattle.pj_script.specs.Playing.{step_entry, under_way_at}
use Rattle.pj_value.specs.Lists.{has}
use Rattle.pj_hand.specs.Hands.{HandState, HandStandsFor}
use Rattle.pj_hand.specs.Held.{first_place, found_at, without}

-- ---- a new hand

-- it holds no probe, and stands for what its core stands for
pub record IsNewHand (core : CoreState) (hand : HandState) : Type 0 where
  pub over : hand.core ≡ core
  pub none : hand.taken ≡ []
  pub stands : (history : List Entry) → StandsFor core history → HandStandsFor hand history

-- ---- entries

-- plan and limit stay, and where the hand stood for a history it stands for it with this entry behind it
pub record HandNotes (old new : HandState) (entry : Entry) : Type 0 where
  pub plan : new.core.plan ≡ old.core.plan
  pub limit : new.core.limit ≡ old.core.limit
  pub stands : (history : List Entry) → HandStandsFor old history → HandStandsFor new (history ++ entry ∷ [])

-- the element has arrived, and none went beyond the limit
pub record HandArrives (old new : HandState) (entry : Entry) : Type 0 where
  pub on : (old.core.kept.stop ≡ None) × (new.core.kept.stop ≡ None)
  pub plan : new.core.plan ≡ old.core.plan
  pub limit : new.core.limit ≡ old.core.limit
  pub within : HasRoomFor old.core entry.event
  pub stands : (history : List Entry) → HandStandsFor old history → MayFollow old.core history entry → HandStandsFor new (history ++ entry ∷ [])

-- ---- steps

-- there is such an entry; it brought no element beyond the limit, and now the hand stands for the history with it
abbrev pub IsMade : HandState → HandState → List Entry → Option Entry → Type 0
IsMade old new history None = ⊥
IsMade old new history (Some entry) = (goes_beyond old.core.limit (nodes_in old.core) history entry.event ≡ None) × HandStandsFor new (history ++ entry ∷ [])

-- the entry of a step behind a history of the hand, where these turns are left of each stream
abbrev pub entry_at : HandState → List Entry → List (List Turn) → ScriptStep → Option Entry
entry_at hand history left step = step_entry (nodes_after hand.core history) left step

-- the step's entry was made behind each history that the hand stood for
pub record MakesStep (old new : HandState) (step : ScriptStep) : Type 0 where
  pub on : (old.core.kept.stop ≡ None) × (new.core.kept.stop ≡ None)
  pub plan : new.core.plan ≡ old.core.plan
  pub limit : new.core.limit ≡ old.core.limit
  pub makes : (history : List Entry) → HandStandsFor old history → (left : List (List Turn)) → IsMade old new history (entry_at old history left step)

-- the step is not enabled behind any history that the hand stands for, and the hand stays as it is
pub record SkipsStep (old new : HandState) (step : ScriptStep) : Type 0 where
  pub on : old.core.kept.stop ≡ None
  pub stays : new ≡ old
  pub none : (history : List Entry) → HandStandsFor old history → (left : List (List Turn)) → entry_at old history left step ≡ None

-- the step was made, or it is not enabled
abbrev pub AnswersStep : Bool → HandState → HandState → ScriptStep → Type 0
AnswersStep true old new step = MakesStep old new step
AnswersStep false old new step = SkipsStep old new step

-- ---- stops

-- a limit stops the event that brings one element beyond it, at that node; memory may be wanting at any time
abbrev pub IsHandCause : HandState → Event → Stop → Type 0
IsHandCause hand event (Limit node) =
    (history : List Entry) → HandStandsFor hand history → goes_beyond hand.core.limit (nodes_in hand.core) history event ≡ Some node
IsHandCause hand event NoMemory = Unit {0}

-- the ticket of the join is under way behind each history that the hand stands for
abbrev pub IsUnderWayThere : HandState → ℕ → ℕ → Type 0
IsUnderWayThere hand join ticket = (history : List Entry) → HandStandsFor hand history → has (under_way_at (nodes_after hand.core history) join) ticket ≡ true

-- the core stops now, and what it has to hand out stays
pub record HandStops (old new : HandState) (stop : Stop) : Type 0 where
  pub notes : HandNotes old new (plain (Stopped stop))
  pub stopped : new.core.kept.stop ≡ Some stop
  pub undrained : new.core.kept.undrained ≡ old.core.kept.undrained

-- a hand that stopped before answers that stop again and stays as it is
pub record StaysAsItWas (old new : HandState) (before stop : Stop) : Type 0 where
  pub again : stop ≡ before
  pub stays : new ≡ old

-- the answer is the stop that was answered before; where there was none the core stops now, for this cause
abbrev pub IsHandRefused : Option Stop → HandState → HandState → Stop → Type 0 → Type 0
IsHandRefused None old new stop cause = HandStops old new stop × cause
IsHandRefused (Some before) old new stop cause = StaysAsItWas old new before stop

-- memory was wanting outside the core: nothing stopped, and the hand stays as it is
pub record LacksMemory (old new : HandState) (stop : Stop) : Type 0 where
  pub on : old.core.kept.stop ≡ None
  pub memory : stop ≡ NoMemory
  pub stays : new ≡ old

-- ---- refusals of the calls

-- how the call of an event is refused
abbrev pub IsEventRefused : HandState → HandState → Event → Stop → Type 0
IsEventRefused old new event stop = IsHandRefused old.core.kept.stop old new stop (IsHandCause old event stop)

-- and the give of a ticket: a core that stops now, stops at a ticket that is under way
abbrev pub IsGiveRefused : HandState → HandState → ℕ → ℕ → Stop → Type 0
IsGiveRefused old new join ticket stop =
    LacksMemory old new stop ⊎ IsHandRefused old.core.kept.stop old new stop (IsHandCause old (Given join ticket) stop × IsUnderWayThere old join ticket)

-- ---- one probe

-- the probe of this ticket of this join was worked on, given and taken out
pub record GivesProbe (old new : HandState) (join ticket : ℕ) : Type 0 where
  pub probe : Found
  pub stood : found_at old.taken join ticket ≡ Some probe
  pub left : new.taken ≡ without old.taken join ticket
  pub given : HasGiven old.core new.core probe probe

-- it was given, or it is not held
abbrev pub GivesOne : Bool → HandState → HandState → ℕ → ℕ → Type 0
GivesOne true old new join ticket = GivesProbe old new join ticket
GivesOne false old new join ticket = (found_at old.taken join ticket ≡ None) × (new ≡ old)

-- the core stopped at its give
pub record StopsGive (old new : HandState) (join ticket : ℕ) (stop : Stop) : Type 0 where
  pub probe : Found
  pub stood : found_at old.taken join ticket ≡ Some probe
  pub stops : StopsNow old.core new.core stop
  pub cause : IsGiveCause old.core probe probe stop

-- the first probe that is held was given, or there is none
abbrev pub GivesFirst : Bool → HandState → HandState → Type 0
GivesFirst true old new = (place : ℕ × ℕ) × (first_place old.taken ≡ Some place) × GivesProbe old new place.0 place.1
GivesFirst false old new = (old.taken ≡ []) × (new ≡ old)

-- the core stopped at its give
abbrev pub StopsGiveFirst : HandState → HandState → Stop → Type 0
StopsGiveFirst old new stop = (place : ℕ × ℕ) × (first_place old.taken ≡ Some place) × StopsGive old new place.0 place.1 stop
