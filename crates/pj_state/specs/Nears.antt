-- Places in a block, whose tickets are told by how far they are past its base.
use Rattle.std.specs.Prelude.{ℕ, ◌+◌, ◌≤◌, ◌^◌, List, [], ◌∷◌}
use Rattle.pj_state.specs.declared.places.Near.{Near}
use Rattle.pj_state.specs.declared.places.Place.{Place}

abbrev pub near_past : Near → ℕ
near_past n = n.past

abbrev pub near_place : ℕ → Near → Place
near_place base n = record { ticket = base + n.past; key = n.key }

abbrev pub places_from : ℕ → List Near → List Place
places_from base [] = []
places_from base (n ∷ ns) = near_place base n ∷ places_from base ns

-- each number of 32 bits past it is one of 64
abbrev pub IsBase : ℕ → Type 0
IsBase base = base + 2 ^ 32 ≤ 2 ^ 64
