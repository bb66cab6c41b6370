-- Groups by their integers in a key column, in order.
use Rattle.std.specs.Prelude.{ℕ, ℤ, ◌+◌, ◌-◌, ◌^◌, ◌<◌, ◌≤◌, ◌≡◌, Bool, true, false, List, Option, Some, None, length, nat_eq, slice_get}
use Rattle.std.specs.BTreeSet.{contains}
use Rattle.std.specs.List.{Contains}
use Rattle.std.specs.Option.{option_map}
use Rattle.std.specs.Ordering.{int_cmp, is_gt, nat_cmp, ordering_then}
use Rattle.std.specs.declared.cmp.Ordering.{Ordering}
use Rattle.std.specs.declared.ops.Bound.{Bound}
use Rattle.std.specs.declared.ops.Bound.TheVariants.{Included, Unbounded}
use Rattle.pj_value.specs.declared.values.Value.{Value}
use Rattle.pj_value.specs.declared.values.Value.TheVariants.{Int}
use Rattle.pj_pattern.specs.declared.pattern.Form.TheVariants.{Range}
use Rattle.pj_pattern.specs.Patterns.{matches_value}
use Rattle.pj_events.specs.Patterns.{Pattern, matches_row}
use Rattle.pj_group.specs.Slots.{GroupSlot, open_at}
use Rattle.pj_group.specs.declared.order_index.Integers.{Integers}
use Rattle.pj_group.specs.declared.order_index.OrderIndex.{OrderIndex}

-- ---- ranges of integers

-- the integer is one of the range
abbrev pub is_between : Integers → ℤ → Bool
is_between range n = matches_value (Range (option_map Int range.low) (option_map Int range.high)) (Int n)

abbrev pub IsUpTo : Option ℤ → Option ℤ → Type 0
IsUpTo None high = Unit {0}
IsUpTo (Some low) None = Unit {0}
IsUpTo (Some low) (Some high) = is_gt (int_cmp low high) ≡ false

-- the low end is not above the high end
abbrev pub IsForward : Integers → Type 0
IsForward range = IsUpTo range.low range.high

abbrev pub HaveEnd : Option ℤ → Option ℤ → Type 0
HaveEnd None None = ⊥
HaveEnd None (Some high) = Unit {0}
HaveEnd (Some low) high = Unit {0}

-- these are the ends of the range, and there is one
pub record AreEnds (low high : Option Value) (range : Integers) : Type 0 where
  pub forward : IsForward range
  pub bounded : HaveEnd range.low range.high
  pub low_is : low ≡ option_map Int range.low
  pub high_is : high ≡ option_map Int range.high

-- the key has an integer of the range in this column
pub record HasInteger (column : ℕ) (range : Integers) (key : List Value) : Type 0 where
  pub number : ℤ
  pub there : slice_get key column ≡ Some (Int number)
  pub within : is_between range number ≡ true

-- the patterns match only such keys
abbrev pub NeedsInteger : List Pattern → ℕ → Integers → Type 0
NeedsInteger patterns column range = (key : List Value) → matches_row patterns key ≡ true → HasInteger column range key

-- a column and a range that the patterns need there
pub record IsRangeSought (patterns : List Pattern) (sought : ℕ × Integers) : Type 0 where
  pub forward : IsForward sought.1
  pub needed : NeedsInteger patterns sought.0 sought.1

-- these are the places of all open groups with such a key, and maybe others
abbrev pub FindsAll : ℕ → List GroupSlot → Integers → List ℕ → Type 0
FindsAll column slots range places = (at : ℕ) (key : List Value) → open_at slots at ≡ Some key → HasInteger column range key → Contains places at

-- ---- what an index has

-- by the integer, then by the place
abbrev pub place_cmp : ℤ × ℕ → ℤ × ℕ → Ordering
place_cmp x y = ordering_then (int_cmp x.0 y.0) (nat_cmp x.1 y.1)

-- the index has the integer with this place
abbrev pub is_kept : OrderIndex → ℤ → ℕ → Bool
is_kept index n at = contains place_cmp index.places (n, at)

-- the index passes over no integer that an open one of so many first groups has in this column
pub record IsOrderOf (column : ℕ) (slots : List GroupSlot) (index : OrderIndex) : Type 0 where
  pub within : index.upto ≤ length slots
  pub kept : (at : ℕ) (key : List Value) (n : ℤ) → at < index.upto → open_at slots at ≡ Some key → slice_get key column ≡ Some (Int n) → is_kept index n at ≡ true

-- it has what it had
pub record HasIntegers (old new : OrderIndex) : Type 0 where
  pub upto : new.upto ≡ old.upto
  pub kept : (n : ℤ) (at : ℕ) → is_kept old n at ≡ true → is_kept new n at ≡ true

-- it has one key more
pub record HasIntegerMore (column : ℕ) (key : List Value) (old new : OrderIndex) : Type 0 where
  pub upto : new.upto ≡ old.upto + 1
  pub kept : (n : ℤ) (at : ℕ) → is_kept old n at ≡ true → is_kept new n at ≡ true
  pub last : (n : ℤ) → slice_get key column ≡ Some (Int n) → is_kept new n old.upto ≡ true

-- it has what it had at other places
pub record HasOthers (at : ℕ) (old new : OrderIndex) : Type 0 where
  pub upto : new.upto ≡ old.upto
  pub kept : (n : ℤ) (other : ℕ) → nat_eq other at ≡ false → is_kept old n other ≡ true → is_kept new n other ≡ true

-- the ends of a range in the index
abbrev pub first_of : Option ℤ → Bound (ℤ × ℕ)
first_of None = Unbounded
first_of (Some low) = Included (low, 0)

abbrev pub last_of : Option ℤ → Bound (ℤ × ℕ)
last_of None = Unbounded
last_of (Some high) = Included (high, 2 ^ 64 - 1)
