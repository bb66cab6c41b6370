-- What a contract sees of a turn and of a seat.
use Rattle.std.specs.Prelude.{◌≡◌, ℕ, ◌<◌, List, [], Option, Some, slice_get}
use Rattle.atomic_table.specs.Seated.{TableId}
use Rattle.pj_turn.specs.declared.turn.Turn.{Turn}
use Rattle.pj_turn.specs.declared.turn.TurnSeat.{TurnSeat}

module _ {T E F : Type 0} where
  -- the fixed part of the state that it was opened with
  abbrev pub turn_fixed : (T → F) → Turn T E F → F
  turn_fixed fixed t = fixed t.table.shared.key.state.value

  -- the name that a turn and its seats share: which table it is, and the fixed part
  abbrev pub turn_name : (T → F) → Turn T E F → TableId × Option F
  turn_name fixed t = (t.table.shared.table_id, Some (turn_fixed fixed t))

  -- how many seats it was made with
  abbrev pub turn_seats : Turn T E F → ℕ
  turn_seats t = t.seats

module _ {T E F : Type 0} {K : _} where
  abbrev pub seat_name : TurnSeat T E F K → TableId × Option F
  seat_name s = (s.seat.table_id, s.seat.me.0.fixed)

  abbrev pub seat_number : TurnSeat T E F K → ℕ
  seat_number s = s.number

  -- a beginning of the one history
  abbrev pub seat_seen : TurnSeat T E F K → List E
  seat_seen s = s.seat.me.0.seen

  -- the seat with this number, at this turn
  pub record IsSeat (fixed : T → F) (turn : Turn T E F) (n : ℕ) (s : TurnSeat T E F K) : Type 0 where
    pub name : seat_name s ≡ turn_name fixed turn
    pub number : seat_number s ≡ n

  -- a seat that has seen nothing
  pub record IsNewSeat (fixed : T → F) (turn : Turn T E F) (n : ℕ) (s : TurnSeat T E F K) : Type 0 where
    pub name : seat_name s ≡ turn_name fixed turn
    pub number : seat_number s ≡ n
    pub seen : seat_seen s ≡ []

  -- the seats of this turn, all of them, in any order
  pub record AreAllSeats (fixed : T → F) (turn : Turn T E F) (seats : List (TurnSeat T E F K)) : Type 0 where
    pub of_turn : (k : ℕ) (s : TurnSeat T E F K) → slice_get seats k ≡ Some s → seat_name s ≡ turn_name fixed turn
    pub all : (n : ℕ) → n < turn_seats turn → (k : ℕ) × (s : TurnSeat T E F K) × (slice_get seats k ≡ Some s) × (seat_number s ≡ n)

  -- a seat with this number among these has seen this
  abbrev pub Saw : List (TurnSeat T E F K) → ℕ → List E → Type 0
  Saw seats n seen = (k : ℕ) × (s : TurnSeat T E F K) × (slice_get seats k ≡ Some s) × (seat_number s ≡ n) × (seat_seen s ≡ seen)
