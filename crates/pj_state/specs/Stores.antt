-- How rows are kept in order of their tickets.
use Rattle.std.specs.Prelude.{◌≡◌, ℕ, ◌<◌, List, [], ◌∷◌, ◌++◌, Option, Some, None, is_some, count_by, length, slice_index_or, slice_set}
use Rattle.pj_value.specs.declared.values.Value.{Value}
use Rattle.pj_value.specs.Options.{row_there}
use Rattle.pj_state.specs.Rising.{IsRising, without}
use Rattle.pj_state.specs.States.{stored}
use Rattle.pj_state.specs.declared.shared.Stored.{Stored}
use Rattle.pj_state.specs.declared.places.Place.{Place}

abbrev pub place_ticket : Place → ℕ
place_ticket p = p.ticket

-- the ticket of the first place
abbrev pub first_ticket : List Place → ℕ
first_ticket [] = 0
first_ticket (p ∷ ps) = p.ticket

-- the places of all blocks, in order
abbrev pub flat : List (List Place) → List Place
flat [] = []
flat (b ∷ bs) = b ++ flat bs

-- no block is empty
abbrev pub AreFilled : List (List Place) → Type 0
AreFilled [] = Unit {0}
AreFilled (b ∷ bs) = (0 < length b) × AreFilled bs

-- the blocks, with this ticket taken out of one of them
abbrev pub less_one : List (List Place) → ℕ → ℕ → List (List Place)
less_one blocks at ticket = slice_set blocks at (without place_ticket ticket (slice_index_or blocks at []))

-- what stands under a key
abbrev pub slot_at : List (Option (List Value)) → ℕ → Option (List Value)
slot_at slots key = slice_index_or slots key None

-- the row that a place leads to, under its ticket
abbrev pub stored_at : List (Option (List Value)) → Place → Stored
stored_at slots p = stored p.ticket (row_there (slot_at slots p.key))

-- the rows that the places lead to
abbrev pub rows_at : List (Option (List Value)) → List Place → List Stored
rows_at slots [] = []
rows_at slots (p ∷ ps) = stored_at slots p ∷ rows_at slots ps

-- each place leads to a row
abbrev pub AreHeld : List (Option (List Value)) → List Place → Type 0
AreHeld slots [] = Unit {0}
AreHeld slots (p ∷ ps) = ((row : List Value) × (slot_at slots p.key ≡ Some row)) × AreHeld slots ps

-- no place has this key
abbrev pub NoneAt : ℕ → List Place → Type 0
NoneAt key [] = Unit {0}
NoneAt key (p ∷ ps) = (p.key ≡ key → ⊥) × NoneAt key ps

-- each place has a key of its own
abbrev pub AreApart : List Place → Type 0
AreApart [] = Unit {0}
AreApart (p ∷ ps) = NoneAt p.key ps × AreApart ps

-- the places' tickets rise, and each leads to a row of its own
pub record IsStore (slots : List (Option (List Value))) (places : List Place) : Type 0 where
  pub held : AreHeld slots places
  pub rising : IsRising place_ticket places
  pub apart : AreApart places
  pub count : count_by is_some slots ≡ length places
