-- Under which stored tuples the punctuations of a join wait.
use Rattle.std.specs.Prelude.{ℕ, ◌<◌, ◌≡◌, ◌==◌, ◌&&◌, Bool, true, false, List}
use Rattle.pj_events.specs.Patterns.{matches_row}
use Rattle.pj_events.specs.Join.{In, PunctAt, TupleAt, has}
use Rattle.pj_waiting.specs.Holding.{WaitingView, is_listed}

-- the tuple is of the punctuation's input, and matches it
abbrev pub holds : PunctAt → TupleAt → Bool
holds p x = (x.input == p.input) && matches_row p.patterns x.row

-- a stored tuple with this ticket does
abbrev pub IsHolder : List TupleAt → PunctAt → ℕ → Type 0
IsHolder stored p ticket = (x : TupleAt) × In x stored × (x.ticket ≡ ticket) × (holds p x ≡ true)

-- each punctuation came before the next ticket, and is listed under a stored tuple that holds it back
pub record AreHeld (next : ℕ) (stored : List TupleAt) (w : WaitingView) : Type 0 where
  pub before : (p : PunctAt) → In p w.puncts → p.ticket < next
  pub held : (p : PunctAt) → In p w.puncts → (t : ℕ) × IsHolder stored p t × (is_listed w (t, p.ticket) ≡ true)

-- each punctuation that does not go is listed under a tuple that is left, and stays so
abbrev pub AreHeldBehind : List TupleAt → List ℕ → List (ℕ × ℕ) → WaitingView → Type 0
AreHeldBehind after goes freed w =
    (p : PunctAt) → In p w.puncts → has goes p.ticket ≡ false → (t : ℕ) × IsHolder after p t × (is_listed w (t, p.ticket) ≡ true) × (In (t, p.ticket) freed → ⊥)
