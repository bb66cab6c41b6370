-- How the rows are found that may stand in a combination with a tuple, from one input to the next.
use Rattle.std.specs.Prelude.{ℕ, ◌≡◌, ◌<◌, ◌==◌, ◌⊎◌, if◌then◌else◌, Bool, true, List, [], ◌∷◌, Option, None, Some, filter, flat_map, length, map, slice_get, slice_index_or}
use Rattle.pj_state.specs.declared.shared.Stored.{Stored}
use Rattle.pj_state.specs.States.{StateView, pairs, row_under, rows_below}
use Rattle.pj_probe.specs.Walks.{sides_at, tuple_at}
use Rattle.pj_events.specs.Join.{ClassCol, In, TupleAt, Value, agree, has, product, upto_from, value_at}
use Rattle.pj_probe.specs.Routes.{AreInClasses, is_reached}
use Rattle.pj_probe.specs.declared.route.ProbeLink.{ProbeLink}
use Rattle.pj_probe.specs.declared.route.ProbeStep.{ProbeStep}
use Rattle.pj_rows.specs.Tuples.{state_at, tuples_in, under_with, ticket_in}
use Rattle.pj_probe.specs.Choices.{choices}
use Rattle.pj_probe.specs.Partners.{AreLinkedTo}

-- the older tuples of an input; of the tuple's own input itself alone
abbrev pub older_at : TupleAt → List StateView → ℕ → List TupleAt
older_at own row_states k = if k == own.input then (own ∷ []) else map (tuple_at k) (pairs (rows_below own.ticket (state_at row_states k).rows))

abbrev pub all_older : TupleAt → List StateView → List (List TupleAt)
all_older own row_states = map (older_at own row_states) (upto_from 0 (length row_states))

-- the tuple has one of the tickets of these rows
abbrev pub is_among : List (ℕ × List Value) → TupleAt → Bool
is_among rows y = has (map ticket_in rows) y.ticket

-- these are rows of an input in order, among which all are that stand in a combination with the tuple
pub record IsChoice (classes : List (List ClassCol)) (own : TupleAt) (row_states : List StateView) (k : ℕ) (rows : List (ℕ × List Value)) : Type 0 where
  pub cut : map (tuple_at k) rows ≡ filter (is_among rows) (older_at own row_states k)
  pub passes : (c : List TupleAt) → In c (product (all_older own row_states)) → agree classes c ≡ true → (y : TupleAt) → In y c → y.input ≡ k → is_among rows y ≡ true

-- with these lists a probe finds what it finds with all
abbrev pub FindSame : List (List ClassCol) → TupleAt → List StateView → List (List (ℕ × List Value)) → Type 0
FindSame classes own row_states lists = filter (agree classes) (product (sides_at 0 lists)) ≡ filter (agree classes) (product (choices classes own (tuples_in 0 row_states)))

-- the row has one of these tickets
abbrev pub has_ticket : List ℕ → Stored → Bool
has_ticket tickets s = has tickets s.ticket

-- ---- from one input to the next

-- each of these rows that has the value of one of the others has one of the tickets
abbrev pub HaveTickets : List Stored → ℕ → ℕ → List (ℕ × List Value) → List ℕ → Type 0
HaveTickets rows mine theirs others tickets = (r : ℕ × List Value) → In r others → (s : Stored) → In s rows → value_at s.row mine ≡ value_at r.1 theirs → In s.ticket tickets

-- the row with this ticket, where it is older
abbrev pub older_under : ℕ → List Stored → ℕ → List Stored
older_under below rows ticket = rows_below below (under_with ticket (row_under ticket rows))

abbrev pub all_under : ℕ → List Stored → List ℕ → List Stored
all_under below rows tickets = flat_map (older_under below rows) tickets

-- the new tickets have the old ones, and those of the rows with this value in the column
pub record AreMore (rows : List Stored) (mine : ℕ) (value : Value) (old new : List ℕ) : Type 0 where
  pub before : (n : ℕ) → In n old → In n new
  pub more : (s : Stored) → In s rows → value_at s.row mine ≡ value → In s.ticket new

-- these are the older rows with tickets of a list that has those of all rows with the value of one of the others
abbrev pub AreLinked : StateView → ℕ → ℕ → List (ℕ × List Value) → ℕ → List (ℕ × List Value) → Type 0
AreLinked state mine theirs others below found =
    (tickets : List ℕ) × HaveTickets state.rows mine theirs others tickets × (found ≡ pairs (filter (has_ticket tickets) (rows_below below state.rows)))

-- these are the rows of a step's input that are found beside those of the others: by its link, or all that are older
abbrev pub AreStepped : Option ProbeLink → StateView → ℕ → List (List (ℕ × List Value)) → List (ℕ × List Value) → Type 0
AreStepped None state below lists found = found ≡ pairs (rows_below below state.rows)
AreStepped (Some link) state below lists found = AreLinked state link.index_column link.from_column (slice_index_or lists link.from_input []) below found

-- so many inputs were begun with, the tuple's own with its row alone and each other one with none
pub record BeginsWith (own : TupleAt) (count : ℕ) (lists : List (List (ℕ × List Value))) : Type 0 where
  pub lists_are : length lists ≡ count
  pub itself : own.input < count → map (tuple_at own.input) (slice_index_or lists own.input []) ≡ own ∷ []
  pub others : (k : ℕ) → k < count → (k ≡ own.input → ⊥) → slice_index_or lists k [] ≡ []

-- no row of a step's input can stand beside the tuple: there is none, or the link leads from the tuple and none has its value
abbrev pub LacksPartner : TupleAt → List StateView → ProbeStep → Type 0
LacksPartner own row_states step =
    ((state_at row_states step.input).rows ≡ [])
    ⊎ ((link : ProbeLink) × (step.link ≡ Some link) × (link.from_input ≡ own.input) × AreLinkedTo own link (state_at row_states step.input).rows [])

-- so of one of these steps
abbrev pub LacksAny : TupleAt → List StateView → List ProbeStep → Type 0
LacksAny own row_states steps = (i : ℕ) × (step : ProbeStep) × (slice_get steps i ≡ Some step) × LacksPartner own row_states step

-- the rows were found of each input that these steps reach
pub record AreFound (own : TupleAt) (row_states : List StateView) (steps : List ProbeStep) (lists : List (List (ℕ × List Value))) : Type 0 where
  pub count : length lists ≡ length row_states
  pub within : (k : ℕ) → is_reached own.input steps k ≡ true → k < length row_states
  pub each : (classes : List (List ClassCol)) → AreInClasses classes steps → (k : ℕ) → is_reached own.input steps k ≡ true → IsChoice classes own row_states k (slice_index_or lists k [])

-- with these lists a probe finds what it finds with all, by whatever classes the links of these steps stand in
abbrev pub FindAll : TupleAt → List StateView → List ProbeStep → List (List (ℕ × List Value)) → Type 0
FindAll own row_states steps lists = (classes : List (List ClassCol)) → AreInClasses classes steps → FindSame classes own row_states lists
