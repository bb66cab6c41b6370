use Rattle.std.proofs.Common.{◌≡◌, ◌≤◌, ◌-◌, ℕ, Some, length, slice_get}
use Rattle.pj_turn.proofs.turn.place_of_first.Given as goal

abbrev pub invariant-loop-place : goal.invariant-loop-place
invariant-loop-place g l = (k : ℕ) × (s : _) × (slice_get l.seats.items k ≡ Some s) × (s.number ≡ 0) × (l.place ≤ k)

abbrev pub decreases-loop-place : goal.decreases-loop-place
decreases-loop-place g l = length l.seats.items - l.place
