-- The laws of histories that seats make.
use Rattle.std.specs.Prelude.{ℕ, ◌≡◌, Bool, List, [], ◌∷◌, ◌++◌, None}
use Rattle.pj_events.specs.declared.events.Entry.{Entry}
use Rattle.pj_events.specs.declared.events.Event.{Event}
use Rattle.pj_events.specs.declared.events.Event.TheVariants.{Take as Taken, Drain}
use Rattle.pj_events.specs.CoreKept.{CoreKept, Stands}
use Rattle.pj_events.specs.Join.{In}
use Rattle.pj_events.specs.Plan.{ArePlanned, Node}
use Rattle.pj_events.specs.History.{IsLegal, nodes_from, reached_of}
use Rattle.pj_events.specs.Outcomes.{drained_of, elements_of, goes_beyond, results_of}
use Rattle.pj_laws.specs.Climb.{IsTree}
use Rattle.pj_laws.specs.ClimbLimits.{begun_by}
use Rattle.pj_laws.specs.Seats.{AreFedByOwn, GivenByTakers, Holds, IsUnderWay, is_closed, is_halted, made_by, seated, stop_of, takers}

-- the number of the seat that made the last entry changes nothing of what a core keeps
abbrev pub SeatsChangeNothing : Type 0
SeatsChangeNothing = (plan : List Node) (history : List Entry) (event : Event) (closing a b : ℕ) (trace : Bool) (kept : CoreKept)
    → Stands trace plan kept (history ++ seated a event closing ∷ []) → Stands trace plan kept (history ++ seated b event closing ∷ [])

-- the results of a ticket that a seat took, over what it has seen, stay its results, whatever follows
abbrev pub ResultsStay : Type 0
ResultsStay = (plan : List Node) → ArePlanned [] plan → (seen more : List Entry) → IsLegal plan (seen ++ more) → (seat join ticket : ℕ)
    → In seat (takers join ticket (made_by seat seen)) → results_of plan (seen ++ more) join ticket ≡ results_of plan seen join ticket

-- the seat that takes a ticket holds it, by its own entries
abbrev pub TakersHold : Type 0
TakersHold = (plan : List Node) → ArePlanned [] plan → (history : List Entry) → GivenByTakers history → (seat join ticket : ℕ)
    → IsLegal plan (history ++ seated seat (Taken join ticket) 0 ∷ []) → Holds seat join ticket (made_by seat (history ++ seated seat (Taken join ticket) 0 ∷ []))

-- what a seat holds so is under way
abbrev pub HeldIsUnderWay : Type 0
HeldIsUnderWay = (plan : List Node) → ArePlanned [] plan → (history : List Entry) → IsLegal plan history → GivenByTakers history
    → (seat join ticket : ℕ) → Holds seat join ticket (made_by seat history) → IsUnderWay plan history join ticket

-- what arrived at a stream is what its seat made arrive, and it is closed where its seat closed it
abbrev pub ElementsAreOwn : Type 0
ElementsAreOwn = (stream : ℕ) (history : List Entry) → AreFedByOwn history → elements_of stream history ≡ elements_of stream (made_by stream history)

abbrev pub ClosingsAreOwn : Type 0
ClosingsAreOwn = (stream : ℕ) (history : List Entry) → AreFedByOwn history → is_closed stream history ≡ is_closed stream (made_by stream history)

-- a drain of a seat adds what was not drained to what its drains handed out before, and no other entry adds anything
abbrev pub DrainsAdd : Type 0
DrainsAdd = (trace : Bool) (plan : List Node) (before behind : List Entry) (seat : ℕ) → made_by seat behind ≡ []
    → drained_of trace plan ((before ++ behind) ++ seated seat Drain 0 ∷ []) seat ≡ drained_of trace plan before seat ++ (reached_of trace plan (before ++ behind)).undrained

-- the stop that is kept after a history, and whether a halt came, are read off the list
abbrev pub StopsAreListed : Type 0
StopsAreListed = (trace : Bool) (plan : List Node) (history : List Entry) → (reached_of trace plan history).stop ≡ stop_of history

abbrev pub HaltsAreListed : Type 0
HaltsAreListed = (trace : Bool) (plan : List Node) (history : List Entry) → (reached_of trace plan history).halted ≡ is_halted history

-- an event at which the node where it begins hands up nothing goes beyond no limit, as a take
abbrev pub QuietEventsStayWithin : Type 0
QuietEventsStayWithin = (limit : ℕ) (plan : List Node) → IsTree plan → (history : List Entry) (event : Event)
    → begun_by (nodes_from plan history) event ≡ [] → goes_beyond limit plan history event ≡ None

abbrev pub TakesStayWithin : Type 0
TakesStayWithin = (limit : ℕ) (plan : List Node) → IsTree plan → (history : List Entry) (join ticket : ℕ) → goes_beyond limit plan history (Taken join ticket) ≡ None
