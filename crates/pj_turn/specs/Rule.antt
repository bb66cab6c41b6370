-- The rule of a turn's table, and what each step tells.
-- The words are the next ticket, the served ticket and the number of entries. The slot holds the state, or nothing while it
-- is out.
use Rattle.std.specs.Prelude.{◌≡◌, ◌≢◌, ◌⊎◌, ℕ, ◌+◌, ◌%◌, ◌^◌, ◌<◌, ◌≤◌, Bool, true, false, ltb, List, [], ◌∷◌, ◌++◌, length, Option, Some, None}
use mathlib.Core.Option.{some, none}
use lib.ListN.{get_elem?}
use Rattle.atomic_table.specs.Table.{State, Me, Step, rest}
use Rattle.pj_value.specs.Bags.{weigh}
use Rattle.pj_turn.specs.declared.views.SeatView.{SeatView}
use Rattle.pj_turn.specs.Meanings.{KeptMeaning, ActMeaning}
use Rattle.pj_turn.specs.History.{own, HasSeen}

abbrev pub bit : Bool → ℕ
bit true = 1
bit false = 0

module _ {E : Type 0} where
  abbrev pub pairs_from : ℕ → List E → List (ℕ × List E) → List (ℕ × List E)
  pairs_from n seen [] = (n, seen) ∷ []
  pairs_from n seen (p ∷ ps) = p ∷ ps

  abbrev pub longer_if : Bool → List E → List E → List E
  longer_if true xs ys = ys
  longer_if false xs ys = xs

  abbrev pub longer : List E → List E → List E
  longer xs ys = longer_if (ltb (length xs) (length ys)) xs ys

module _ {F E : Type 0} where
  abbrev pub ticket_of : SeatView F E → ℕ
  ticket_of v = bit v.waits

  abbrev pub life_of : SeatView F E → ℕ
  life_of v = bit v.live

  -- the view with this ticket, this turn, and this seen
  abbrev pub now : SeatView F E → Bool → ℕ → Bool → List E → SeatView F E
  now v waits ticket turn seen = record { number = v.number; live = v.live; waits = waits; ticket = ticket; turn = turn; count = v.count; fixed = v.fixed; seen = seen; pairs = v.pairs }

  -- a seat that is in no turn, with this number and this count of seats
  abbrev pub idle_view : ℕ → ℕ → Option F → List E → SeatView F E
  idle_view n c fixed seen = record { number = n; live = true; waits = false; ticket = 0; turn = false; count = c; fixed = fixed; seen = seen; pairs = [] }

  -- the first seat, before any other is split off
  abbrev pub first_view : F → SeatView F E
  first_view fixed = idle_view 0 1 (Some fixed) []

  abbrev pub left_of : SeatView F E → SeatView F E
  left_of v = record { number = v.number; live = v.live; waits = v.waits; ticket = v.ticket; turn = v.turn; count = v.count + 1; fixed = v.fixed; seen = v.seen; pairs = v.pairs }

  abbrev pub right_of : SeatView F E → SeatView F E
  right_of v = idle_view v.count 0 v.fixed v.seen

  -- the kept pairs, and before the first join the seat's own
  abbrev pub all_pairs : SeatView F E → List (ℕ × List E)
  all_pairs v = pairs_from v.number v.seen v.pairs

  -- the view with this seen, and these pairs
  abbrev pub gathered : SeatView F E → List E → List (ℕ × List E) → SeatView F E
  gathered v seen pairs = record { number = v.number; live = v.live; waits = v.waits; ticket = v.ticket; turn = v.turn; count = v.count; fixed = v.fixed; seen = seen; pairs = pairs }

  abbrev pub joined : SeatView F E → SeatView F E → SeatView F E
  joined v w = gathered v (longer v.seen w.seen) (all_pairs v ++ (w.number, w.seen) ∷ [])

  abbrev pub spent : SeatView F E
  spent = record { number = 0; live = false; waits = false; ticket = 0; turn = false; count = 0; fixed = None; seen = []; pairs = [] }

module _ {T E F : Type 0} (kept : KeptMeaning T E F) where
  module _ (first : F) where
    -- What the rule says of one view. A spent one holds no ticket. A ticket that is held is the served one or behind it, and
    -- before the next. A seat whose turn it is holds the served ticket and has seen the whole history. A live seat has a number
    -- below the count, has seen a beginning of the history with all entries of its own, and knows the fixed part. The seat
    -- with the number 0 knows the count. Pairs stand in the seat with the number 0 alone, and what a pair has seen is such
    -- a beginning too
    pub record Fits (next serving count : ℕ) (log : List E) (v : SeatView F E) : Type 0 where
      pub spent_waits_not : v.live ≡ false → v.waits ≡ false
      pub ticketed : v.waits ≡ true → (serving ≤ v.ticket) × (v.ticket < next)
      pub served : v.turn ≡ true → (v.waits ≡ true) × (v.ticket ≡ serving) × (v.seen ≡ log)
      pub seated : v.live ≡ true → (v.number < count) × HasSeen kept.number v.number v.seen log × (v.fixed ≡ Some first)
      pub counts : v.live ≡ true → v.number ≡ 0 → v.count ≡ count
      pub paired : (k : ℕ) (p : ℕ × List E) → get_elem? v.pairs k ≡ some p → (p.0 < count) × HasSeen kept.number p.0 p.1 log × (v.live ≡ true) × (v.number ≡ 0)

    -- the view of the seat i
    abbrev pub Sits : State (Option T) (SeatView F E) → ℕ → SeatView F E → Type 0
    Sits s i v = get_elem? s.views i ≡ some v

    -- the slot is at home with the state
    abbrev pub AtHome : State (Option T) (SeatView F E) → List E → Type 0
    AtHome s log = (x : T) × (s.homes ≡ some (Some x) ∷ []) × kept.stands x log × (kept.fixed x ≡ first) × ((i : ℕ) (v : SeatView F E) → Sits s i v → v.turn ≡ false)

    -- the slot is out with the seat whose turn it is
    abbrev pub IsOut : State (Option T) (SeatView F E) → Type 0
    IsOut s = (i : ℕ) × (v : SeatView F E) × Sits s i v × (v.turn ≡ true) × (s.homes ≡ none ∷ [])

    -- The rule, between any two steps: there are the next and the served ticket, the count of seats, and the history, and the
    -- words are these modulo 2^64. As many tickets are held as were drawn and not served, and no two seats hold one. At most
    -- as many seats live as were counted, and no two have one number; a number in a pair is no other live seat's. The history
    -- has what is kept of every history, and no entry of a number that is no seat's
    pub record Orderly (seats : ℕ) (s : State (Option T) (SeatView F E)) : Type 0 where
      pub next : ℕ
      pub serving : ℕ
      pub count : ℕ
      pub log : List E
      pub words_are : s.words ≡ next % 2 ^ 64 ∷ serving % 2 ^ 64 ∷ length log % 2 ^ 64 ∷ []
      pub held : weigh ticket_of s.views + serving ≡ next
      pub alive : weigh life_of s.views ≤ count
      pub few : (count ≤ seats) × (seats ≤ 64)
      pub each : (i : ℕ) (v : SeatView F E) → Sits s i v → Fits next serving count log v
      pub tickets_apart : (i j : ℕ) (v w : SeatView F E) → Sits s i v → Sits s j w → v.waits ≡ true → w.waits ≡ true → v.ticket ≡ w.ticket → i ≡ j
      pub numbers_apart : (i j : ℕ) (v w : SeatView F E) → Sits s i v → Sits s j w → v.live ≡ true → w.live ≡ true → v.number ≡ w.number → i ≡ j
      pub pairs_apart : (i j k : ℕ) (v w : SeatView F E) (p : ℕ × List E) → Sits s i v → Sits s j w → v.live ≡ true → get_elem? w.pairs k ≡ some p → p.0 ≡ v.number → v.number ≡ 0
      pub keeps : kept.keeps log
      pub unseated : (n : ℕ) → count ≤ n → own kept.number n log ≡ []
      pub slot : AtHome s log ⊎ IsOut s

  -- it is the seat's turn, and the slot is taken, with a state that stands for the whole history
  pub record SeatTakes (m n : Me (Option T) (SeatView F E)) : Type 0 where
    pub state : T
    pub log : List E
    pub fixed : F
    pub seat : n ≡ (now m.0 true m.0.ticket true log, (0, Some state) ∷ m.1)
    pub standing : kept.stands state log
    pub keeps : kept.keeps log
    pub seen_so_far : HasSeen kept.number m.0.number m.0.seen log
    pub known : m.0.fixed ≡ Some fixed
    pub fixed_is : kept.fixed state ≡ fixed

  -- the slot is taken exactly where the number found is the seat's ticket
  abbrev pub looked : Step (Option T) → Me (Option T) (SeatView F E) → ℕ → Me (Option T) (SeatView F E) → Type 0
  looked st m r n = (r ≡ m.0.ticket % 2 ^ 64 → SeatTakes m n) × (r ≢ m.0.ticket % 2 ^ 64 → n ≡ m)

-- the entry of an act that gave this answer, where the seat has seen the whole history
abbrev pub entry_at : {T F E A : Type 0} → ActMeaning T E F A → SeatView F E → A → E
entry_at act v answer = act.entry v.number v.seen answer

module _ {S F E : Type 0} where
  -- a ticket was drawn
  abbrev pub drew : Step (Option S) → Me (Option S) (SeatView F E) → ℕ → Me (Option S) (SeatView F E) → Type 0
  drew st m r n = (t : ℕ) × (r ≡ t % 2 ^ 64) × (n ≡ (now m.0 true t false m.0.seen, m.1))

  -- the entries were added to the history
  abbrev pub noted : List E → Step (Option S) → Me (Option S) (SeatView F E) → ℕ → Me (Option S) (SeatView F E) → Type 0
  noted es st m r n = n ≡ (now m.0 true m.0.ticket true (m.0.seen ++ es), m.1)

  -- the slot was given back, and the next is served
  abbrev pub gave_back : Step (Option S) → Me (Option S) (SeatView F E) → ℕ → Me (Option S) (SeatView F E) → Type 0
  gave_back st m r n = n ≡ (now m.0 false m.0.ticket false m.0.seen, rest m.1)
