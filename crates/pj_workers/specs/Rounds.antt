-- The rounds of workers. A round is a look and what follows on it; each role says what follows.
use Rattle.std.specs.Prelude.{ℕ, ◌≡◌, ◌⊎◌, nat_lt, All, Bool, true, false, List, [], ◌∷◌, ◌++◌, map}
use Rattle.pj_pattern.specs.declared.element.Element.{Element}
use Rattle.pj_events.specs.declared.events.Entry.{Entry}
use Rattle.pj_events.specs.declared.events.Event.TheVariants.{Arrive, Take as Taken, Give as Given, Sweep as Swept, Drain, Look as Looked, Idle}
use Rattle.pj_events.specs.Plan.{Node}
use Rattle.pj_laws.specs.Seats.{IsInputOf, made_by, seated}

-- ---- parts of rounds

-- a look of a seat, which told so many pending tickets
abbrev pub looked : ℕ → ℕ → Entry
looked seat pending = seated seat (Looked pending) 0

-- a take and the give of its ticket, or nothing to do in their place
abbrev pub IsProbed : ℕ → List Entry → Type 0
IsProbed seat entries =
    (entries ≡ seated seat Idle 0 ∷ [])
    ⊎ ((join : ℕ) × (ticket : ℕ) × (entries ≡ seated seat (Taken join ticket) 0 ∷ seated seat (Given join ticket) 0 ∷ []))

-- the same where it is due, and else nothing
abbrev pub IsProbedWhere : Bool → ℕ → List Entry → Type 0
IsProbedWhere true seat entries = IsProbed seat entries
IsProbedWhere false seat entries = entries ≡ []

-- an arrival at the stream of the seat's number
abbrev pub IsArrival : ℕ → List Entry → Type 0
IsArrival seat entries = (element : Element) × (mark : ℕ) × (entries ≡ seated seat (Arrive seat element) mark ∷ [])

-- one sweep of each of these places, in order
abbrev pub swept_each : ℕ → List (ℕ × ℕ) → List Entry
swept_each seat places = map (λ place. seated seat (Swept place.0 place.1) 0) places

-- each of these places is a join of the plan and one of its inputs
abbrev pub AreInputs : List Node → List (ℕ × ℕ) → Type 0
AreInputs nodes places = All (λ place. IsInputOf nodes place.0 place.1) places

-- a feeder that is told more pending tickets than these does one itself
abbrev pub most_pending : ℕ
most_pending = 1024

-- what a feeder does first that is told so many pending tickets
abbrev pub IsRelief : ℕ → ℕ → List Entry → Type 0
IsRelief pending seat entries = IsProbedWhere (nat_lt most_pending pending) seat entries

-- ---- what follows on a look that told so many pending tickets

abbrev pub FollowsProbing : ℕ → ℕ → List Entry → Type 0
FollowsProbing seat pending entries = IsProbed seat entries

abbrev pub FollowsSweeping : List (ℕ × ℕ) → ℕ → ℕ → List Entry → Type 0
FollowsSweeping places seat pending entries = entries ≡ swept_each seat places

abbrev pub FollowsWriting : ℕ → ℕ → List Entry → Type 0
FollowsWriting seat pending entries = entries ≡ seated seat Drain 0 ∷ []

abbrev pub FollowsFeeding : ℕ → ℕ → List Entry → Type 0
FollowsFeeding seat pending entries =
    (probed : List Entry) × (fed : List Entry) × (entries ≡ probed ++ fed) × IsRelief pending seat probed × IsArrival seat fed

-- ---- rounds

-- a look, and what follows on it
pub record IsRound (follows : ℕ → ℕ → List Entry → Type 0) (seat : ℕ) (entries : List Entry) : Type 0 where
  pub pending : ℕ
  pub rest : List Entry
  pub begins : entries ≡ looked seat pending ∷ rest
  pub goes_on : follows seat pending rest

-- the entries of these rounds, one round after the other
abbrev pub joined : List (List Entry) → List Entry
joined [] = []
joined (round ∷ rounds) = round ++ joined rounds

-- all of these are rounds
abbrev pub AreRounds : (List Entry → Type 0) → List (List Entry) → Type 0
AreRounds part [] = Unit {0}
AreRounds part (round ∷ rounds) = part round × AreRounds part rounds

-- whole rounds stand behind these entries of the seat
pub record Whole (part : List Entry → Type 0) (before after : List Entry) : Type 0 where
  pub rounds : List (List Entry)
  pub each : AreRounds part rounds
  pub adds : after ≡ before ++ joined rounds

-- the seat has added one whole part to its own entries
pub record Adds (seat : ℕ) (part : List Entry → Type 0) (before after : List Entry) : Type 0 where
  pub entries : List Entry
  pub own : made_by seat after ≡ made_by seat before ++ entries
  pub is_part : part entries
