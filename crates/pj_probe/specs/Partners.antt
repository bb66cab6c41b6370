-- The rows of the other one of two inputs among which all are that a tuple is joined with.
use Rattle.std.specs.Prelude.{◌≡◌, ◌<◌, ◌-◌, ℕ, true, List, [], ◌∷◌, Some, map, slice_get}
use Rattle.std.specs.Arc.{arc_value}
use Rattle.pj_value.specs.declared.values.Value.{Value}
use Rattle.pj_state.specs.declared.shared.Stored.{Stored}
use Rattle.pj_state.specs.States.{StateView, rows_with}
use Rattle.pj_events.specs.Join.{ClassCol, In, TupleAt, agree}
use Rattle.pj_rows.specs.Tuples.{tuple_in, tuples_in}
use Rattle.pj_probe.specs.Results.{found_out, pairs_out}
use Rattle.pj_probe.specs.declared.route.ProbeLink.{ProbeLink}
use Rattle.pj_probe.specs.declared.route.ProbeRoute.{ProbeRoute}

-- each of these rows of this input joins with the tuple
abbrev pub AllAgree : List (List ClassCol) → TupleAt → ℕ → List Stored → Type 0
AllAgree classes own input rows = (s : Stored) → In s rows → agree classes (own ∷ tuple_in input s ∷ []) ≡ true

-- these are the rows that have the tuple's value in the columns of the link
abbrev pub AreLinkedTo : TupleAt → ProbeLink → List Stored → List Stored → Type 0
AreLinkedTo own link rows found = (value : Value) × (slice_get own.row link.from_column ≡ Some value) × (found ≡ rows_with link.index_column value rows)

-- the tuple is of one of two inputs, and all that it finds is found among these rows of the other; where the route decides, each joins with it
pub record ArePartners (route : ProbeRoute) (own : TupleAt) (row_states : List StateView) (found : List Stored) : Type 0 where
  pub two : own.input < 2
  pub all : pairs_out (arc_value route.checks) own (map (tuple_in (1 - own.input)) found) ≡ found_out (arc_value route.checks) own (tuples_in 0 row_states)
  pub decided : route.decides ≡ true → AllAgree (arc_value route.checks) own (1 - own.input) found
