-- How large what a group keeps may be.
use Rattle.std.specs.Prelude.{ℕ, ◌*◌, ◌^◌, ◌≤◌, ◌≡◌, List, Option, length, pos, neg_ℤ, IfSome, ◌≤ℤ◌, All}
use Rattle.pj_shape.specs.declared.groups.GroupSpec.{GroupSpec}
use Rattle.pj_events.specs.Tables.{Greatest, Least, Rows, Tally, Total}
use Rattle.pj_group.specs.Indexes.{AreIndexesOf}
use Rattle.pj_group.specs.Slots.{GroupSlot}
use Rattle.pj_group.specs.declared.indexes.ColumnIndex.{ColumnIndex}

-- what so many rows may come to
abbrev pub IsBounded : ℕ → Tally → Type 0
IsBounded n (Rows m) = m ≤ n
IsBounded n (Total z) = (neg_ℤ (pos (n * 2 ^ 63)) ≤ℤ z) × (z ≤ℤ pos (n * 2 ^ 63))
IsBounded n (Least v) = Unit {0}
IsBounded n (Greatest v) = Unit {0}

-- one state for each aggregate, each of at most so many rows
pub record AreStates (count aggs : ℕ) (tallies : List Tally) : Type 0 where
  pub each : length tallies ≡ aggs
  pub bounded : All (IsBounded count) tallies

abbrev pub AllStates : ℕ → GroupSpec → List GroupSlot → Type 0
AllStates count spec slots = All (λ slot. IfSome slot.1 (AreStates count (length spec.aggs))) slots

-- the open groups are of at most as many rows as came, and no more came than may; the indexes are of these groups
pub record IsHeld (spec : GroupSpec) (limit count : ℕ) (slots : List GroupSlot) (find : ℕ → Option ColumnIndex) : Type 0 where
  pub few : limit ≤ 2 ^ 40
  pub within : count ≤ limit
  pub states : AllStates count spec slots
  pub indexed : AreIndexesOf slots find
