-- How a union keeps the punctuations that wait: by their places among those that came.
use Rattle.std.specs.Prelude.{ℕ, ◌+◌, ◌-◌, ◌<◌, ◌≡◌, Bool, false, ◌==◌, ◌&&◌, List, [], ◌∷◌, ◌++◌, map, length, slice_index_or, All}
use Rattle.std.specs.List.{list_any}
use Rattle.pj_events.specs.Patterns.{Pattern, covers_punct}
use Rattle.pj_events.specs.Operators.{Sent, all_sent_from}
use Rattle.pj_flow.specs.Unions.{UnionView, bears_on}

-- stands for a punctuation where there is none
abbrev pub nobody : Sent
nobody = record { input = 0; patterns = [] }

abbrev pub sent_at : List Sent → ℕ → Sent
sent_at came place = slice_index_or came place nobody

abbrev pub patterns_at : List Sent → ℕ → List Pattern
patterns_at came place = (sent_at came place).patterns

-- the union whose waiting punctuations stand at these places
abbrev pub seen : ℕ → ℕ → List Sent → List ℕ → UnionView
seen inputs arity came waiting = record { inputs = inputs; arity = arity; state = record { came = came; waiting = map (sent_at came) waiting } }

-- no input holds it back
abbrev pub is_ready : ℕ → List Sent → ℕ → Bool
is_ready n came place = all_sent_from 0 n came (sent_at came place)

-- the punctuation at this place has come, and is held back
abbrev pub IsHeld : ℕ → List Sent → ℕ → Type 0
IsHeld n came place = (place < length came) × (is_ready n came place ≡ false)

abbrev pub AreHeld : ℕ → List Sent → List ℕ → Type 0
AreHeld n came waiting = All (IsHeld n came) waiting

-- the newest punctuation, where one has come
abbrev pub newest : List Sent → ℕ
newest came = length came - 1

-- the punctuation at this place has come, and is held back where the newest does not bear on it
abbrev pub IsAsked : ℕ → List Sent → ℕ → Type 0
IsAsked n came place = (place < length came) × (bears_on (sent_at came (newest came)) (sent_at came place) ≡ false → is_ready n came place ≡ false)

abbrev pub AreAsked : ℕ → List Sent → List ℕ → Type 0
AreAsked n came waiting = All (IsAsked n came) waiting

-- the places that wait, and behind them the newest
abbrev pub with_newest : List Sent → List ℕ → List ℕ
with_newest came waiting = waiting ++ newest came ∷ []

-- this input has sent a punctuation that covers it
abbrev pub has_covering : List Sent → Sent → ℕ → Bool
has_covering came p k = list_any (λ q. (q.input == k) && covers_punct q.patterns p.patterns) came

-- whether all inputs have sent one turns on those from this one on
abbrev pub SentFrom : ℕ → List Sent → Sent → ℕ → Type 0
SentFrom n came p k = (left : ℕ) → k + left ≡ n → all_sent_from 0 n came p ≡ all_sent_from k left came p
