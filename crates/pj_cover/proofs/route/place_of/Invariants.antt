use Rattle.std.proofs.Common.{take}
use Rattle.pj_value.specs.Lists.{In}
use Rattle.pj_cover.proofs.route.place_of.Given as goal

abbrev pub invariant-loop-place : goal.invariant-loop-place
invariant-loop-place l = In l.input (take l.place l.known) → ⊥
