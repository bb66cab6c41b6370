-- What a sweep takes out of the punctuations that wait.
use Rattle.std.specs.Prelude.{ℕ, ◌≡◌, ◌==◌, ◌⊎◌, true, not, List, filter}
use Rattle.pj_events.specs.Join.{In, PunctAt, has}
use Rattle.pj_waiting.specs.Holding.{WaitingView, is_listed}

-- the punctuations with other tickets
abbrev pub puncts_but : ℕ → List PunctAt → List PunctAt
puncts_but ticket ps = filter (λ p. not (p.ticket == ticket)) ps

abbrev pub puncts_without : List ℕ → List PunctAt → List PunctAt
puncts_without tickets ps = filter (λ p. not (has tickets p.ticket)) ps

-- what was listed and is not among these is listed
abbrev pub KeepsOthers : List (ℕ × ℕ) → WaitingView → WaitingView → Type 0
KeepsOthers freed old new = (q : ℕ × ℕ) → is_listed old q ≡ true → (In q freed → ⊥) → is_listed new q ≡ true

-- what is listed under the tuple came to these listings, and nothing under another
pub record HasUnder (w : WaitingView) (blocker : ℕ) (old new : List (ℕ × ℕ)) : Type 0 where
  pub all : (n : ℕ) → is_listed w (blocker, n) ≡ true → In (blocker, n) new
  pub kept : (q : ℕ × ℕ) → In q old → In q new
  pub those : (q : ℕ × ℕ) → In q new → In q old ⊎ (q.0 ≡ blocker)
