-- What contracts see of a seat at the hub of a crew.
use Rattle.std.specs.Prelude.{List, [], ◌∷◌}
use Rattle.pj_events.specs.declared.events.Entry.{Entry}
use Rattle.pj_turn.specs.declared.turn.TurnSeat.{TurnSeat}
use Rattle.pj_turn.specs.Seats.{seat_name, seat_number, seat_seen}
use Rattle.pj_hub.specs.declared.made.MadeWith.{MadeWith}
use Rattle.pj_hub.specs.declared.made.Shared.{Shared}
use Rattle.pj_crew.specs.Tasks.{SeatState, TaskState}
use Rattle.pj_crew.specs.declared.duties.Duty.{Duty}

-- what a contract sees of a seat
abbrev pub seat_state : {K : _} → TurnSeat Shared Entry MadeWith K → SeatState
seat_state seat = record { name = seat_name seat; number = seat_number seat; seen = seat_seen seat }

-- a duty on a seat, of which contracts see this
abbrev pub at_seat : {S : Type 0} → SeatState → Duty S → TaskState S
at_seat seat duty = record { seat = seat; duty = duty }

-- these duties, each on the seat of its place
abbrev pub seated : {A S : Type 0} → (A → SeatState) → List A → List (Duty S) → List (TaskState S)
seated view [] duties = []
seated view (seat ∷ seats) [] = []
seated view (seat ∷ seats) (duty ∷ duties) = at_seat (view seat) duty ∷ seated view seats duties

-- what contracts see of these seats
abbrev pub seat_states : {A : Type 0} → (A → SeatState) → List A → List SeatState
seat_states view [] = []
seat_states view (seat ∷ seats) = view seat ∷ seat_states view seats

-- the seats of these tasks, and their duties
abbrev pub seats_of : {S : Type 0} → List (TaskState S) → List SeatState
seats_of [] = []
seats_of (task ∷ tasks) = task.seat ∷ seats_of tasks

abbrev pub duties_of : {S : Type 0} → List (TaskState S) → List (Duty S)
duties_of [] = []
duties_of (task ∷ tasks) = task.duty ∷ duties_of tasks
