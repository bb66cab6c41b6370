-- Indexes: which rows have which value in a column.
use Rattle.std.specs.Prelude.{◌≡◌, ℕ, ℤ, ◌<◌, ◌≤◌, Bool, if◌then◌else◌, List, [], ◌∷◌, ◌++◌, Some, length, slice_index_or}
use Rattle.indexmap.specs.IndexMap.{IndexMap, get}
use Rattle.pj_value.specs.declared.values.Value.{Value}
use Rattle.pj_value.specs.declared.values.Value.TheVariants.{Int, Text}
use Rattle.pj_value.specs.Values.{value_eq}
use Rattle.pj_state.specs.Keys.{same_text, text_key}
use Rattle.pj_state.specs.Numbers.{listed, number_tickets}
use Rattle.pj_state.specs.Rising.{AllBelow, IsRising, first_with, itself, without}
use Rattle.pj_state.specs.States.{rows_with, ticket_of, tickets_of}
use Rattle.pj_state.specs.declared.shared.Stored.{Stored}
use Rattle.pj_state.specs.declared.texts.TextKey.{TextKey}
use Rattle.pj_state.specs.declared.index.ValueIndex.{ValueIndex}

-- the tickets under a key
abbrev pub told_at : {K S : Type 0} → (K → K → Bool) → IndexMap K (List ℕ) S → K → List ℕ
told_at same map key = listed (get same map key)

-- the tickets of a value: an integer is looked up among these, a text among those
abbrev pub told_by : (ℤ → List ℕ) → (TextKey → List ℕ) → Value → List ℕ
told_by numbers texts (Int n) = numbers n
told_by numbers texts (Text bytes) = texts (text_key bytes)

-- the tickets that an index has for a value
abbrev pub told : ValueIndex → Value → List ℕ
told index = told_by (number_tickets index.numbers) (told_at same_text index.texts)

-- the first has the same tickets as the second, but one more under this key
abbrev pub HasMoreAt : {K : Type 0} → (K → K → Bool) → (K → List ℕ) → (K → List ℕ) → K → ℕ → Type 0
HasMoreAt {K} same new old key ticket = (k : K) → new k ≡ (if same key k then old k ++ ticket ∷ [] else old k)

-- the first has the same tickets as the second, but not this one under this key
abbrev pub HasFewerAt : {K : Type 0} → (K → K → Bool) → (K → List ℕ) → (K → List ℕ) → K → ℕ → Type 0
HasFewerAt {K} same new old key ticket = (k : K) → new k ≡ (if same key k then without itself ticket (old k) else old k)

-- the same, where the tickets under the key rise
abbrev pub TakesAt : {K : Type 0} → (K → K → Bool) → (K → List ℕ) → (K → List ℕ) → K → ℕ → Type 0
TakesAt same new old key ticket = IsRising itself (old key) → HasFewerAt same new old key ticket

-- both have the same tickets
abbrev pub HasSameAt : {K : Type 0} → (K → List ℕ) → (K → List ℕ) → Type 0
HasSameAt {K} new old = (k : K) → new k ≡ old k

-- the same, of values
abbrev pub HasMore : (Value → List ℕ) → (Value → List ℕ) → Value → ℕ → Type 0
HasMore new old value ticket = HasMoreAt value_eq new old value ticket

abbrev pub HasFewer : (Value → List ℕ) → (Value → List ℕ) → Value → ℕ → Type 0
HasFewer new old value ticket = HasFewerAt value_eq new old value ticket

abbrev pub HasSame : (Value → List ℕ) → (Value → List ℕ) → Type 0
HasSame new old = HasSameAt new old

-- the index has exactly the tickets of the rows with each value in this column
abbrev pub IsIndexOf : ℕ → List Stored → ValueIndex → Type 0
IsIndexOf column rows index = (v : Value) → told index v ≡ tickets_of (rows_with column v rows)

-- the indexes from one place to below another are those of the columns there
abbrev pub AreIndexes : List ℕ → List Stored → List ValueIndex → ℕ → ℕ → Type 0
AreIndexes columns rows indexes from end =
    (k : ℕ) (d : ValueIndex) → from ≤ k → k < end → IsIndexOf (slice_index_or columns k 0) rows (slice_index_or indexes k d)

-- there is one index for each column
pub record IsIndexed (columns : List ℕ) (rows : List Stored) (indexes : List ValueIndex) : Type 0 where
  pub count : length indexes ≡ length columns
  pub each : AreIndexes columns rows indexes 0 (length columns)

-- the rows stand in order of their tickets, and are indexed
pub record IsKept (columns : List ℕ) (rows : List Stored) (indexes : List ValueIndex) : Type 0 where
  pub rising : IsRising ticket_of rows
  pub indexed : IsIndexed columns rows indexes

-- one row more is indexed
abbrev pub IndexesMore : List ℕ → List ValueIndex → List ValueIndex → Stored → Type 0
IndexesMore columns old new s = (rows : List Stored) → IsIndexed columns rows old → IsIndexed columns (rows ++ s ∷ []) new

-- the same rows are indexed, where their tickets are below this one
abbrev pub IndexesSame : List ℕ → List ValueIndex → List ValueIndex → ℕ → Type 0
IndexesSame columns old new ticket =
    (rows : List Stored) → IsRising ticket_of rows → AllBelow ticket_of ticket rows → IsIndexed columns rows old → IsIndexed columns rows new

-- the first so many indexes have this row no more
abbrev pub IndexesFewer : List ℕ → List ValueIndex → List ValueIndex → ℕ → Stored → Type 0
IndexesFewer columns old new count s =
    (rows : List Stored) → IsRising ticket_of rows → first_with ticket_of s.ticket rows ≡ Some s → AreIndexes columns rows old 0 count
    → AreIndexes columns (without ticket_of s.ticket rows) new 0 count

-- from a place on all indexes are the same
abbrev pub SameBehind : List ValueIndex → List ValueIndex → ℕ → Type 0
SameBehind old new at = (k : ℕ) (d : ValueIndex) → at ≤ k → slice_index_or new k d ≡ slice_index_or old k d

-- the tickets are those of the rows with this value in this column, which stand in order
abbrev pub IsMatching : ℕ → Value → List Stored → List ℕ → Type 0
IsMatching column value rows tickets = (tickets ≡ tickets_of (rows_with column value rows)) × IsRising ticket_of rows
