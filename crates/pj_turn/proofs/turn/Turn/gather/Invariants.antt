use Rattle.std.proofs.Common.{◌≡◌, ◌⊎◌, ℕ, true, false, Some, slice_get}
use mathlib.Core.Option.{some}
use lib.ListN.{get_elem?}
use Rattle.pj_turn.specs.Rule.{all_pairs}
use Rattle.pj_turn.proofs.turn.Turn.gather.Given as goal

abbrev pub invariant-loop-seat : goal.invariant-loop-seat
invariant-loop-seat g l =
    (l.first.table_id ≡ l.initial.first.table_id)
    × (l.first.me.0.live ≡ true) × (l.first.me.0.waits ≡ false) × (l.first.me.0.turn ≡ false) × (l.first.me.0.number ≡ 0)
    × (get_elem? (all_pairs l.first.me.0) 0 ≡ some (0, l.initial.first.me.0.seen))
    × ((k : ℕ) (s : _) → slice_get l.others.items k ≡ Some s → slice_get l.initial.others.items k ≡ Some s)
    × ((k : ℕ) (s : _) → slice_get l.initial.others.items k ≡ Some s → (slice_get l.others.items k ≡ Some s) ⊎ ((i : ℕ) × (get_elem? (all_pairs l.first.me.0) i ≡ some (s.number, s.seat.me.0.seen))))

abbrev pub decreases-loop-seat : goal.decreases-loop-seat
decreases-loop-seat g l = goal.left-loop-seat g l
