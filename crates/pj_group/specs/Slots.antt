-- Groups as they stand in memory: one that was closed keeps its place, without states, until all such are cleared away.
use Rattle.std.specs.Prelude.{ℕ, ◌≡◌, Bool, List, [], ◌∷◌, Option, Some, None, is_some, slice_get}
use Rattle.std.specs.Map.{keys_of}
use Rattle.pj_value.specs.declared.values.Value.{Value}
use Rattle.pj_value.specs.Values.{row_eq}
use Rattle.pj_pattern.specs.declared.element.Element.{Element}
use Rattle.pj_pattern.specs.declared.element.Element.TheVariants.{Tuple}
use Rattle.pj_events.specs.Patterns.{Pattern, matches_row}
use Rattle.pj_events.specs.Tables.{GroupTable, Tally, row_of}

-- a key, and the states of its group while it is open
abbrev pub GroupSlot : Type 0
GroupSlot = List Value × Option (List Tally)

abbrev pub with_open : List Value → Option (List Tally) → GroupTable → GroupTable
with_open key None table = table
with_open key (Some tallies) table = (key, tallies) ∷ table

-- the groups that are open, in the order of their first rows
abbrev pub open_groups : List GroupSlot → GroupTable
open_groups [] = []
open_groups (slot ∷ slots) = with_open slot.0 slot.1 (open_groups slots)

abbrev pub is_open : GroupSlot → Bool
is_open slot = is_some slot.1

-- the key of a group while it is open
abbrev pub key_while_open : List Value → Option (List Tally) → Option (List Value)
key_while_open key None = None
key_while_open key (Some tallies) = Some key

abbrev pub open_key : Option GroupSlot → Option (List Value)
open_key None = None
open_key (Some slot) = key_while_open slot.0 slot.1

-- the key of the group at a place, where there is one that is open
abbrev pub open_at : List GroupSlot → ℕ → Option (List Value)
open_at slots at = open_key (slice_get slots at)

-- the same keys stand at the same places, and none of their groups came to be open
pub record OpensNone (old new : List GroupSlot) : Type 0 where
  pub keys : keys_of new ≡ keys_of old
  pub was_open : (at : ℕ) (key : List Value) → open_at new at ≡ Some key → open_at old at ≡ Some key

-- what was found of a key is no group that was closed
abbrev pub IsReady : Option (Option (List Tally)) → Type 0
IsReady None = Unit {0}
IsReady (Some None) = ⊥
IsReady (Some (Some tallies)) = Unit {0}

-- the states that were found of a key
abbrev pub states_in : Option (Option (List Tally)) → Option (List Tally)
states_in None = None
states_in (Some states) = states

-- the row of a key, where its group is open
abbrev pub state_rows : List Value → Option (List Tally) → List Element
state_rows key None = []
state_rows key (Some tallies) = Tuple (row_of (key, tallies)) ∷ []

-- the patterns match this key and no other
abbrev pub MatchesOnly : List Pattern → List Value → Type 0
MatchesOnly patterns key = (row : List Value) → matches_row patterns row ≡ row_eq key row
