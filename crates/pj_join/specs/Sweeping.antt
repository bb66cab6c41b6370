-- Which stored tuples a sweep removes, and which punctuations it lets go.
use Rattle.std.specs.Prelude.{ℕ, Bool, not, ◌==◌, ◌&&◌, ◌||◌, List, map, filter, ◌<◌, ◌≡◌, if◌then◌else◌, true, [], ◌∷◌, ◌++◌}
use Rattle.pj_shape.specs.declared.columns.Column.{Column}
use Rattle.pj_state.specs.declared.shared.Stored.{Stored}
use Rattle.pj_events.specs.Patterns.{Pattern}
use Rattle.pj_events.specs.Join.{PunctAt, TupleAt, has, is_held, In, Step, TupleComes, PunctComes, Take, Give, Sweep, Punct, JoinState, run, start, low, widened, hands_up, outputs, ripe, AreLegalSteps, IsCombination, older, older_puncts, need_of, covered}
use Rattle.pj_waiting.specs.Letting.{widened_among}
use Rattle.std.specs.List.{list_all}
use Rattle.pj_value.specs.declared.values.Value.{Value}
use Rattle.pj_events.specs.KeptState.{kept_low, kept_ripe, swept}
use Rattle.pj_pattern.specs.Elements.{IsLawful}
use Rattle.pj_join.specs.Joins.{JoinView}

-- the rows with other tickets than these
abbrev pub rows_without : List ℕ → List Stored → List Stored
rows_without gone rows = filter (λ s. not (has gone s.ticket)) rows

-- whether a sweep of this input that leaves these tuples lets the punctuation go
abbrev pub is_let_go : List TupleAt → ℕ → PunctAt → Bool
is_let_go stored input p = (p.input == input) && not (is_held stored p)

-- those that wait on
abbrev pub waiting_on : List TupleAt → ℕ → List PunctAt → List PunctAt
waiting_on stored input ps = filter (λ p. not (p.input == input) || is_held stored p) ps

-- the tuples of the input that a sweep removes: exactly the ripe ones, in order of tickets
abbrev pub swept_off : JoinView → ℕ → List TupleAt
swept_off join input = filter (λ x. (x.input == input) && kept_ripe join.spec join.kept x) join.kept.stored

-- their rows
abbrev pub rows_off : JoinView → ℕ → List (List Value)
rows_off join input = map (λ x. x.row) (swept_off join input)

abbrev pub next_punct : JoinView → ℕ → List Pattern → PunctAt
next_punct join input patterns = record { ticket = join.kept.next; input = input; patterns = patterns }

-- a punctuation that comes goes up at once where no stored tuple of its input matches it
abbrev pub puncts_at_once : JoinView → PunctAt → List (List Pattern)
puncts_at_once join p = if not (is_held join.kept.stored p) then widened join.spec p ∷ [] else []

-- those that waited go up at the first sweep of their input that leaves no tuple which matches them, in order of tickets
abbrev pub puncts_let_go : JoinView → ℕ → List (List Pattern)
puncts_let_go join input =
    map (widened join.spec) (filter (λ p. (p.input == input) && not (is_held (swept join.spec join.kept input) p)) join.kept.waiting)

-- the punctuations that the join hands up at a step, widened by wildcards for the columns of its other inputs
abbrev pub puncts_up : JoinView → Step → List (List Pattern)
puncts_up join (PunctComes input patterns) = puncts_at_once join (next_punct join input patterns)
puncts_up join (Sweep input) = puncts_let_go join input
puncts_up join (TupleComes input row) = []
puncts_up join (Take u) = []
puncts_up join (Give u) = []

-- the state that the steps make of a new join
abbrev pub state_after : JoinView → List Step → JoinState
state_after join steps = run join.spec start steps

-- what goes up at the step behind these are the punctuations that the join hands up by its history
abbrev pub HandsUp : JoinView → List Step → Step → Type 0
HandsUp join steps e = map Punct (puncts_up join e) ≡ hands_up join.spec (state_after join steps) e

-- what the join has handed up is lawful: no row of it matches a punctuation before it
abbrev pub HasBeenLawful : JoinView → List Step → Type 0
HasBeenLawful join steps = IsLawful (outputs join.spec start steps)

-- A tuple that the sweep removes stands in no combination with a ticket from the low-water ticket on, over all tuples that
-- came and all that legal steps bring later
abbrev pub IsForgotten : JoinView → List Step → ℕ → Type 0
IsForgotten join steps input =
    (x : TupleAt) → In x (swept_off join input) → (later : List Step) → AreLegalSteps join.spec (state_after join (steps ++ Sweep input ∷ [])) later
    → (xs : List TupleAt) → IsCombination join.spec xs → In x xs
    → ((y : TupleAt) → In y xs → In y (state_after join (steps ++ Sweep input ∷ later)).tuples)
    → (y : TupleAt) → In y xs → y.ticket < kept_low join.kept

-- all that the tuple asks for, over all tuples below the low-water ticket that came, is covered below it
abbrev pub IsCoveredWhole : JoinView → JoinState → TupleAt → Type 0
IsCoveredWhole join s x = list_all (covered (older_puncts (low s) s.puncts)) (need_of join.spec (older (low s) s.tuples) x) ≡ true

-- a stored tuple of the input below the low-water ticket whose whole need is covered is removed
abbrev pub GoesWhereCovered : JoinView → List Step → ℕ → Type 0
GoesWhereCovered join steps input =
    (x : TupleAt) → In x join.kept.stored → x.input ≡ input → x.ticket < kept_low join.kept → IsCoveredWhole join (state_after join steps) x
    → In x (swept_off join input)

-- a tuple that was stored and ripe after a front of the steps, and is stored still, is ripe still; one of the input is removed
abbrev pub StaysRipeUntil : JoinView → List Step → ℕ → Type 0
StaysRipeUntil join steps input =
    (before later : List Step) → steps ≡ before ++ later → (x : TupleAt) → In x (state_after join before).stored → ripe join.spec (state_after join before) x ≡ true
    → In x join.kept.stored → (kept_ripe join.spec join.kept x ≡ true) × (x.input ≡ input → In x (swept_off join input))
