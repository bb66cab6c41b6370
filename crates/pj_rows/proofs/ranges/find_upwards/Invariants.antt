use Rattle.std.proofs.Common.{◌≡◌}
use Rattle.pj_rows.specs.Ranges.{IsBefore, NoneStays}
use Rattle.pj_rows.proofs.ranges.find_upwards.Given as goal

abbrev pub invariant-loop : goal.invariant-loop
invariant-loop l = NoneStays (IsBefore l.stretch.column l.stretch.numbers.low l.left.low) l.state.rows l.gone l.punct × (l.left.high ≡ l.stretch.numbers.high)
