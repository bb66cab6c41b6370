-- What taking a row of a key makes of the group that stands for it.
use Rattle.std.specs.Prelude.{◌≡◌, List, Some, None, filter}
use Rattle.std.specs.Map.{lookup, set_value}
use Rattle.pj_value.specs.declared.values.Value.{Value}
use Rattle.pj_value.specs.Values.{row_eq}
use Rattle.pj_events.specs.Tables.{Tally}
use Rattle.pj_group.specs.Slots.{GroupSlot, is_open}
use Rattle.pj_group.specs.declared.group.Found.{Found}
use Rattle.pj_group.specs.declared.group.Found.TheVariants.{Open, Closed, Missing}

-- the group of the key is open, and its states are the next ones
pub record IsRenewed (next : List Tally → List Tally) (old : List GroupSlot) (key : List Value) (new : List GroupSlot) : Type 0 where
  pub tallies : List Tally
  pub there : lookup (row_eq key) old ≡ Some (Some tallies)
  pub renewed : new ≡ set_value (row_eq key) old (Some (next tallies))

-- nothing changed, and none of these stands for the key
pub record IsLeft (looked old : List GroupSlot) (key : List Value) (new : List GroupSlot) : Type 0 where
  pub none : lookup (row_eq key) looked ≡ None
  pub same : new ≡ old

-- an open group is renewed; else nothing changes, and no open group or none at all stands for the key
abbrev pub Renews : (List Tally → List Tally) → List GroupSlot → List Value → List GroupSlot → Found → Type 0
Renews next old key new Open = IsRenewed next old key new
Renews next old key new Closed = IsLeft (filter is_open old) old key new
Renews next old key new Missing = IsLeft old old key new
