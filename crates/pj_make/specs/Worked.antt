-- The first states and numbers that are drawn, computed.
use Rattle.std.specs.Prelude.{◌≡◌}
use Rattle.pj_make.specs.Draws.{drawn, state_after}

abbrev pub FirstStates : Type 0
FirstStates = (state_after 7 1 ≡ 1282168116) × (state_after 7 2 ≡ 642666333)

abbrev pub FirstDraws : Type 0
FirstDraws = (drawn (state_after 7 1) ≡ 565) × (drawn (state_after 7 2) ≡ 807)
