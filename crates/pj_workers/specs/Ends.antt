-- How a worker ends: the last entry that it makes, and what stands before it.
use Rattle.std.specs.Prelude.{ℕ, ◌≡◌, ◌||◌, ◌&&◌, ◌==◌, is_some, true, Bool, List, [], ◌∷◌, ◌++◌}
use Rattle.pj_events.specs.declared.events.Entry.{Entry}
use Rattle.pj_events.specs.declared.events.Event.{Event}
use Rattle.pj_events.specs.declared.events.Event.TheVariants.{Arrive, Take as Taken, Give as Given, Sweep as Swept, Drain, Halt, Look as Looked, Stopped as StopMade, Idle}
use Rattle.pj_events.specs.declared.events.Look.{Look}
use Rattle.pj_events.specs.declared.events.Stop.{Stop}
use Rattle.pj_laws.specs.Seats.{HubPlan, made_by, seated, stop_of}
use Rattle.pj_seats.specs.Answers.{IsCauseOf, IsLook, IsRefusal, refused}
use Rattle.pj_workers.specs.Rounds.{FollowsProbing, FollowsSweeping, IsRound, Whole, looked}
use Rattle.pj_workers.specs.declared.ends.WorkEnd.{WorkEnd}
use Rattle.pj_workers.specs.declared.ends.WorkEnd.TheVariants.{Over, NoMemory, Stopped}
use Rattle.pj_workers.specs.declared.ends.Broken.{Broken}
use Rattle.pj_workers.specs.declared.ends.Broken.TheVariants.{NoMemory as BrokenMemory, Stopped as BrokenStop}

-- ---- when a look shows that the work is over

abbrev pub shows_stop : Look → Bool
shows_stop look = look.halted || is_some look.stop

abbrev pub shows_ended : Look → Bool
shows_ended look = look.ended == look.streams

-- a halt, a stop, or all streams ended and nothing is pending or taken
abbrev pub ends_probing : Look → Bool
ends_probing look = shows_stop look || (shows_ended look && ((look.pending == 0) && (look.taken == 0)))

-- a halt, a stop, or all streams ended: of sweepers and of the writer
abbrev pub ends_sweeping : Look → Bool
ends_sweeping look = shows_stop look || shows_ended look

-- a halt alone
abbrev pub ends_feeding : Look → Bool
ends_feeding look = look.halted

-- ---- how a call ended

-- the history that its last turn found, the entries of the last round before that turn, and the entry that it made
pub record Ending : Type 0 where
  pub history : List Entry
  pub front : List Entry
  pub last : Entry

-- the last entry is a look that shows it, and nothing of a round stands before it
pub record IsOver (hub : HubPlan) (seat : ℕ) (over : Look → Bool) (ending : Ending) : Type 0 where
  pub none : ending.front ≡ []
  pub look : Look
  pub is_last : ending.last ≡ looked seat look.pending
  pub told : IsLook hub look ending.history
  pub shows : over look ≡ true

-- the last entry is a halt, behind the beginning of a part
pub record IsHalt (seat : ℕ) (part : List Entry → Type 0) (ending : Ending) : Type 0 where
  pub rest : List Entry
  pub begins : part (ending.front ++ rest)
  pub is_last : ending.last ≡ seated seat Halt 0

-- a call may be refused in the place of these
abbrev pub MayBeRefused : Event → Type 0
MayBeRefused (Arrive stream element) = Unit {0}
MayBeRefused (Taken join ticket) = Unit {0}
MayBeRefused (Given join ticket) = Unit {0}
MayBeRefused (Swept join input) = Unit {0}
MayBeRefused Idle = Unit {0}
MayBeRefused Drain = ⊥
MayBeRefused Halt = ⊥
MayBeRefused (Looked pending) = ⊥
MayBeRefused (StopMade stop) = ⊥

-- The last entry is that of a call that was refused with this stop, in the place of the event that the part has there: by a stop
-- of before, or since this event, behind the history, has this cause
pub record IsRefused (hub : HubPlan) (seat : ℕ) (part : List Entry → Type 0) (stop : Stop) (ending : Ending) : Type 0 where
  pub event : Event
  pub mark : ℕ
  pub rest : List Entry
  pub begins : part (ending.front ++ seated seat event mark ∷ rest)
  pub may : MayBeRefused event
  pub is_last : ending.last ≡ seated seat (refused ending.history stop) 0
  pub cause : IsRefusal (stop_of ending.history) stop (IsCauseOf hub ending.history event stop)

-- how a prober or a sweeper ends, whose rounds are these, and which is over where a look shows this
abbrev pub IsEnd : HubPlan → ℕ → (List Entry → Type 0) → (Look → Bool) → WorkEnd → Ending → Type 0
IsEnd hub seat part over Over ending = IsOver hub seat over ending
IsEnd hub seat part over NoMemory ending = IsHalt seat part ending
IsEnd hub seat part over (Stopped stop) ending = IsRefused hub seat part stop ending

-- how a part of a round breaks off
abbrev pub IsBreak : HubPlan → ℕ → (List Entry → Type 0) → Broken → Ending → Type 0
IsBreak hub seat part BrokenMemory ending = IsHalt seat part ending
IsBreak hub seat part (BrokenStop stop) ending = IsRefused hub seat part stop ending

-- how a prober ends whose round broke off
abbrev pub work_end : Broken → WorkEnd
work_end BrokenMemory = NoMemory
work_end (BrokenStop stop) = Stopped stop

-- ---- what one call makes

-- The seat had these entries of its own. Now it has the beginning of a round behind them and the last entry, which is also the
-- last that it has seen
pub record Ends (seat : ℕ) (is_end : Ending → Type 0) (own after : List Entry) : Type 0 where
  pub ending : Ending
  pub seen : after ≡ ending.history ++ ending.last ∷ []
  pub adds : made_by seat after ≡ own ++ (ending.front ++ ending.last ∷ [])
  pub is : is_end ending

-- whole rounds, then the beginning of one more and the last entry
pub record Made (seat : ℕ) (part : List Entry → Type 0) (is_end : Ending → Type 0) (before after : List Entry) : Type 0 where
  pub own : List Entry
  pub whole : Whole part (made_by seat before) own
  pub ended : Ends seat is_end own after

-- what a call of a prober made, and how it ended
abbrev pub Probes : HubPlan → ℕ → List Entry → List Entry → WorkEnd → Type 0
Probes hub seat before after end = Made seat (IsRound FollowsProbing seat) (IsEnd hub seat (IsRound FollowsProbing seat) ends_probing end) before after

-- the same of a sweeper of these places
abbrev pub Sweeps : HubPlan → ℕ → List (ℕ × ℕ) → List Entry → List Entry → WorkEnd → Type 0
Sweeps hub seat places before after end =
    Made seat (IsRound (FollowsSweeping places) seat) (IsEnd hub seat (IsRound (FollowsSweeping places) seat) ends_sweeping end) before after

-- a part broke off
abbrev pub Breaks : HubPlan → ℕ → (List Entry → Type 0) → List Entry → List Entry → Broken → Type 0
Breaks hub seat part before after broken = Ends seat (IsBreak hub seat part broken) (made_by seat before) after
