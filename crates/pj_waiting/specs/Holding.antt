-- Which stored tuples hold the punctuations back that wait.
use Rattle.std.specs.Prelude.{ℕ, ◌≡◌, ◌⊎◌, Bool, true, false, List, [], ◌++◌, ◌∷◌, map, filter, ◌<◌, length}
use Rattle.std.specs.BTreeMap.{is_at}
use Rattle.std.specs.List.{list_any}
use Rattle.std.specs.Ordering.{nat_cmp, ordering_then}
use Rattle.std.specs.declared.cmp.Ordering.{Ordering}
use Rattle.pj_state.specs.declared.shared.Stored.{Stored}
use Rattle.pj_events.specs.Patterns.{Pattern}
use Rattle.pj_events.specs.Join.{In, PunctAt}
use Rattle.pj_waiting.specs.declared.widening.Swept.{Swept}
use Rattle.pj_waiting.specs.Letting.{lets_go, widened_among}
use Rattle.pj_rows.specs.Finding.{stays, IsStaying, AreSome}
use Rattle.pj_waiting.specs.declared.held.ArrivingPunct.{ArrivingPunct}
use Rattle.pj_state.specs.Rising.{IsRising, itself}

-- a punctuation that waits, without its ticket
pub record HeldPunctView : Type 0 where
  pub input : ℕ
  pub patterns : List Pattern

-- the punctuations that wait, in order of tickets, and what is listed: the ticket of a tuple with that of a punctuation
pub record WaitingView : Type 0 where
  pub puncts : List PunctAt
  pub listed : List (ℕ × ℕ)

abbrev pub waits_at : ℕ → HeldPunctView → PunctAt
waits_at ticket p = record { ticket = ticket; input = p.input; patterns = p.patterns }

-- the punctuations of a map by tickets
abbrev pub waiting_in : List (ℕ × HeldPunctView) → List PunctAt
waiting_in entries = map (λ e. waits_at e.0 e.1) entries

-- by the tuple, then by the punctuation
abbrev pub listing_cmp : ℕ × ℕ → ℕ × ℕ → Ordering
listing_cmp x y = ordering_then (nat_cmp x.0 y.0) (nat_cmp x.1 y.1)

-- whether the second ticket, of a punctuation, is listed under the first, of a tuple
abbrev pub is_listed : WaitingView → ℕ × ℕ → Bool
is_listed w q = list_any (is_at (listing_cmp q)) w.listed

-- what was listed is
abbrev pub KeepsLists : WaitingView → WaitingView → Type 0
KeepsLists old new = (q : ℕ × ℕ) → is_listed old q ≡ true → is_listed new q ≡ true

-- a row that is not among those that go matches the punctuation, which is listed under it
abbrev pub IsHeldBy : List Stored → List ℕ → WaitingView → PunctAt → Type 0
IsHeldBy rows gone w p = (t : ℕ) × IsStaying rows gone p.patterns t × (is_listed w (t, p.ticket) ≡ true)

-- each punctuation of the input is listed under a row that matches it
pub record AreHeldBy (rows : List Stored) (input : ℕ) (w : WaitingView) : Type 0 where
  pub held : (p : PunctAt) → In p w.puncts → p.input ≡ input → IsHeldBy rows [] w p

-- a punctuation that comes is listed under a row that matches it, where there is one
abbrev pub IsListedIf : Bool → List Stored → List Pattern → ℕ → WaitingView → Type 0
IsListedIf true rows patterns ticket w = (t : ℕ) × IsStaying rows [] patterns t × (is_listed w (t, ticket) ≡ true)
IsListedIf false rows patterns ticket w = Unit {0}

-- ---- behind a sweep

-- each punctuation of the input that does not go up is listed under a row that stays
abbrev pub StayHeld : List Stored → List ℕ → ℕ → WaitingView → Type 0
StayHeld rows gone input w = (p : PunctAt) → In p w.puncts → p.input ≡ input → lets_go rows gone input p ≡ false → IsHeldBy rows gone w p

abbrev pub held_at : PunctAt → ℕ
held_at p = p.ticket

-- the tickets of the punctuations that pass
abbrev pub tickets_where : (PunctAt → Bool) → List PunctAt → List ℕ
tickets_where goes ps = map held_at (filter goes ps)

-- whether the punctuation goes up
abbrev pub goes_up : Swept → PunctAt → Bool
goes_up s p = lets_go s.state.now.rows s.gone.now s.input p

-- no punctuation with the ticket goes up, and one of the input is listed under a row that stays
pub record StaysListed (s : Swept) (w : WaitingView) (ticket : ℕ) : Type 0 where
  pub stays : (p : PunctAt) → In p w.puncts → p.ticket ≡ ticket → goes_up s p ≡ false
  pub held : (p : PunctAt) → In p w.puncts → p.ticket ≡ ticket → p.input ≡ s.input → IsHeldBy s.state.now.rows s.gone.now w p

-- it goes up, widened
abbrev pub GoesUp : Swept → WaitingView → ℕ → List (List Pattern) → List (List Pattern) → Type 0
GoesUp s w ticket out out' = (p : PunctAt) × In p w.puncts × (p.ticket ≡ ticket) × (goes_up s p ≡ true) × (out' ≡ out ++ widened_among s.schemas.now p ∷ [])

abbrev pub IsLetGo : Swept → WaitingView → ℕ → List ℕ → List ℕ → List (List Pattern) → List (List Pattern) → Type 0
IsLetGo s w ticket goes goes' out out' =
    ((goes' ≡ goes) × (out' ≡ out) × StaysListed s w ticket) ⊎ ((goes' ≡ goes ++ ticket ∷ []) × GoesUp s w ticket out out')

-- each is listed under a tuple that goes
abbrev pub AreFreed : List ℕ → List (ℕ × ℕ) → Type 0
AreFreed gone freed = (q : ℕ × ℕ) → In q freed → In q.0 gone

-- ---- punctuations

-- the punctuation that comes
abbrev pub arriving_punct : ArrivingPunct → PunctAt
arriving_punct p = record { ticket = p.ticket; input = p.input; patterns = p.punct }

-- those that go are some of the rows of an input, in order of tickets
pub record IsSwept (s : Swept) : Type 0 where
  pub there : s.input < length s.schemas.now
  pub rising : IsRising itself s.gone.now
  pub some : AreSome s.state.now.rows s.gone.now
