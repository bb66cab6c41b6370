use Rattle.std.proofs.Common.{◌≡◌}
use Rattle.pj_rows.specs.Ranges.{IsBehind, NoneStays}
use Rattle.pj_rows.proofs.ranges.find_downwards.Given as goal

abbrev pub invariant-loop : goal.invariant-loop
invariant-loop l = NoneStays (IsBehind l.stretch.column l.stretch.numbers.high l.left.high) l.state.rows l.gone l.punct × (l.left.low ≡ l.stretch.numbers.low)
