use Rattle.std.proofs.Common.{◌≡◌, ℕ, [], ◌+◌, length, Some, slice_get}
use Rattle.pj_turn.specs.Seats.{turn_fixed}
use Rattle.pj_turn.specs.Rule.{idle_view}
use Rattle.pj_turn.proofs.turn.Turn.deal.Given as goal

abbrev pub invariant-loop-number : goal.invariant-loop-number
invariant-loop-number g l =
    let fixed = turn_fixed g.T.Kept.meaning.fixed l.self in
    (l.first.table_id ≡ l.self.table.shared.table_id)
    × (l.first.me ≡ (idle_view 0 l.number (Some fixed) [], []))
    × (length l.others.items + 1 ≡ l.number)
    × ((k : ℕ) (s : _) → slice_get l.others.items k ≡ Some s → (s.seat.table_id ≡ l.self.table.shared.table_id) × (s.number ≡ k + 1) × (s.seat.me.0.seen ≡ []) × (s.seat.me.0.fixed ≡ Some fixed))
