use Rattle.std.proofs.Common.{◌≡◌}
use Rattle.pj_rows.specs.Ranges.{HoldAll, IsBefore}
use Rattle.pj_rows.proofs.ranges.tickets_among.Given as goal

abbrev pub invariant-loop : goal.invariant-loop
invariant-loop l = HoldAll (IsBefore l.column l.fn.numbers.low l.left.low) l.state.rows l.tickets × (l.left.high ≡ l.fn.numbers.high)
