-- Blocks that are reached one from the other.
use Rattle.std.specs.Prelude.{◌≡◌, ℕ, ◌+◌, ◌<◌, ◌≤◌, List, [], length, slice_index_or, take}
use Rattle.pj_state.specs.Stores.{flat}
use Rattle.pj_state.specs.declared.cursor.Reached.{Reached}
use Rattle.pj_state.specs.declared.places.Place.{Place}

-- so many blocks stand before it, with so many places
abbrev pub AreBefore : List (List Place) → ℕ → ℕ → Type 0
AreBefore blocks block before = (block ≤ length blocks) × (before ≡ length (flat (take block blocks)))

abbrev pub IsReached : List (List Place) → Reached → Type 0
IsReached blocks r = AreBefore blocks r.block r.before

-- the place at a position stands in the block
pub record StandsIn (blocks : List (List Place)) (r : Reached) (at : ℕ) : Type 0 where
  pub reached : AreBefore blocks r.block r.before
  pub there : r.block < length blocks
  pub from : r.before ≤ at
  pub to : at < r.before + length (slice_index_or blocks r.block [])
