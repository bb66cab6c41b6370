-- Groups by their values in a key column.
use Rattle.std.specs.Prelude.{ℕ, ◌+◌, ◌≤◌, ◌≡◌, Bool, true, false, if◌then◌else◌, List, [], ◌∷◌, ◌++◌, ◌&&◌, Option, Some, None, length, take, flat_map, nat_eq, slice_get, IfSome}
use Rattle.std.specs.Bool.{MatchBool}
use Rattle.std.specs.Map.{keys_of}
use Rattle.indexmap.specs.IndexMap.{get, set_value_at}
use Rattle.pj_value.specs.declared.values.Value.{Value}
use Rattle.pj_value.specs.Values.{value_eq}
use Rattle.pj_value.specs.Options.{is_value}
use Rattle.pj_pattern.specs.declared.element.Element.{Element}
use Rattle.pj_events.specs.Patterns.{Pattern, matches_row}
use Rattle.pj_group.specs.Slots.{GroupSlot, MatchesOnly, is_open}
use Rattle.pj_group.specs.Steps.{closed_at}
use Rattle.pj_group.specs.Orders.{IsOrderOf}
use Rattle.pj_group.specs.declared.indexes.ColumnIndex.{ColumnIndex}
use Rattle.pj_group.specs.declared.value_index.ValueIndex.{ValueIndex}
use Rattle.pj_group.specs.declared.reach.Reach.{Reach}
use Rattle.pj_group.specs.declared.reach.Reach.TheVariants.{One, Column, Several, All as AllGroups}

-- the key has this value in this column
abbrev pub has_value : ℕ → Value → List Value → Bool
has_value column value key = is_value value (slice_get key column)

-- the places, counted from this one, of the keys that have this value in this column
abbrev pub places_from : ℕ → ℕ → Value → List (List Value) → List ℕ
places_from at column value [] = []
places_from at column value (key ∷ keys) =
    if has_value column value key then (at ∷ places_from (at + 1) column value keys) else places_from (at + 1) column value keys

-- ---- what an index tells

abbrev pub places_in : Option (List ℕ) → List ℕ
places_in None = []
places_in (Some places) = places

-- the places that an index has for a value
abbrev pub told : ValueIndex → Value → List ℕ
told index value = places_in (get value_eq index.places value)

-- the places for a value, where there may be no index
abbrev pub told_by : Option ColumnIndex → Value → List ℕ
told_by None value = []
told_by (Some index) value = told index.values value

-- the index has exactly the places of so many first keys
pub record IsIndexOf (column : ℕ) (keys : List (List Value)) (index : ValueIndex) : Type 0 where
  pub within : index.upto ≤ length keys
  pub places : (value : Value) → told index value ≡ places_from 0 column value (take index.upto keys)

-- both indexes of a column are of these groups: the one by values has closed ones too, the one by order at least the open ones
pub record IsColumnOf (column : ℕ) (slots : List GroupSlot) (index : ColumnIndex) : Type 0 where
  pub values : IsIndexOf column (keys_of slots) index.values
  pub order : IsOrderOf column slots index.order

-- what is found by a column are indexes of these groups by that column
abbrev pub AreIndexesOf : List GroupSlot → (ℕ → Option ColumnIndex) → Type 0
AreIndexesOf slots find = (column : ℕ) → IfSome (find column) (IsColumnOf column slots)

-- the index of this column has the places of all groups
abbrev pub IsWhole : ℕ → List GroupSlot → Option ColumnIndex → Type 0
IsWhole column slots index = (value : Value) → told_by index value ≡ places_from 0 column value (keys_of slots)

-- where all places of a value are told before, they are after
abbrev pub StayWhole : List GroupSlot → (ℕ → Option ColumnIndex) → (ℕ → Option ColumnIndex) → Type 0
StayWhole slots old new =
    (column : ℕ) (value : Value) → told_by (old column) value ≡ places_from 0 column value (keys_of slots) → told_by (new column) value ≡ places_from 0 column value (keys_of slots)

-- one place more is told, for this value
abbrev pub TellsMore : Value → ℕ → ValueIndex → ValueIndex → Type 0
TellsMore given at old new = (value : Value) → told new value ≡ (if value_eq given value then told old value ++ at ∷ [] else told old value)

abbrev pub TellsSame : ValueIndex → ValueIndex → Type 0
TellsSame old new = (value : Value) → told new value ≡ told old value

-- one key more is indexed by this column
pub record HasOneMore (column : ℕ) (key : List Value) (old new : ValueIndex) : Type 0 where
  pub upto : new.upto ≡ old.upto + 1
  pub places : (value : Value) → told new value ≡ (if has_value column value key then told old value ++ old.upto ∷ [] else told old value)

-- the same keys are indexed
pub record HasSame (old new : ValueIndex) : Type 0 where
  pub upto : new.upto ≡ old.upto
  pub places : TellsSame old new

-- ---- where groups are looked for

-- the patterns match only keys that have this value in this column
abbrev pub NeedsValue : List Pattern → ℕ → Value → Type 0
NeedsValue patterns column value = (key : List Value) → matches_row patterns key ≡ true → has_value column value key ≡ true

-- these are the places of all keys with a value that the patterns need
pub record AreFound (patterns : List Pattern) (column : ℕ) (value : Value) (slots : List GroupSlot) (places : List ℕ) : Type 0 where
  pub needed : NeedsValue patterns column value
  pub all : places ≡ places_from 0 column value (keys_of slots)

-- a column and a value that the patterns need there, whose places are all told
abbrev pub IsSought : List Pattern → List GroupSlot → (ℕ → Option ColumnIndex) → ℕ × Value → Type 0
IsSought patterns slots find sought = AreFound patterns sought.0 sought.1 slots (told_by (find sought.0) sought.1)

-- all are this place or behind it
abbrev pub AreFrom : ℕ → List ℕ → Type 0
AreFrom at [] = Unit {0}
AreFrom at (place ∷ places) = (at ≤ place) × AreFrom at places

-- the group is open, and its key matches
abbrev pub is_closed_by : List Pattern → GroupSlot → Bool
is_closed_by patterns slot = is_open slot && matches_row patterns slot.0

-- these places rise, and pass over no open group whose key matches; the groups stand at the places from this one on
abbrev pub PassNone : List Pattern → ℕ → List GroupSlot → List ℕ → Type 0
PassNone patterns at [] places = AreFrom at places
PassNone patterns at (slot ∷ slots) [] = (is_closed_by patterns slot ≡ false) × PassNone patterns (at + 1) slots []
PassNone patterns at (slot ∷ slots) (place ∷ places) =
    MatchBool (nat_eq at place) (PassNone patterns (at + 1) slots places) ((is_closed_by patterns slot ≡ false) × PassNone patterns (at + 1) slots (place ∷ places))

-- no other open group matches than those that are looked for
abbrev pub Reaches : List Pattern → List GroupSlot → (ℕ → Option ColumnIndex) → Reach → Type 0
Reaches patterns slots find AllGroups = Unit {0}
Reaches patterns slots find (One key) = MatchesOnly patterns key
Reaches patterns slots find (Column column value) = PassNone patterns 0 slots (told_by (find column) value)
Reaches patterns slots find (Several column places) = PassNone patterns 0 slots places

-- ---- groups at places

-- the rows of the groups at these places that are open and whose keys match
abbrev pub closed_over : List Pattern → List GroupSlot → List ℕ → List Element
closed_over patterns slots places = flat_map (λ at. closed_at patterns (slice_get slots at)) places

abbrev pub matches_slot : List Pattern → Option GroupSlot → Bool
matches_slot patterns None = false
matches_slot patterns (Some slot) = matches_row patterns slot.0

-- the group at a place has no states any more, where its key matches
abbrev pub shut_at : List Pattern → List GroupSlot → ℕ → List GroupSlot
shut_at patterns slots at = if matches_slot patterns (slice_get slots at) then set_value_at slots at None else slots

abbrev pub shut_over : List Pattern → List GroupSlot → List ℕ → List GroupSlot
shut_over patterns slots [] = slots
shut_over patterns slots (at ∷ places) = shut_over patterns (shut_at patterns slots at) places
