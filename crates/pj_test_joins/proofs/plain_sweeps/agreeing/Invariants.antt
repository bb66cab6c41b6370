use Rattle.std.proofs.Common.{◌≡◌}
use Rattle.pj_test_joins.specs.Triples.{triple_join}
use Rattle.pj_test_joins.proofs.plain_sweeps.agreeing.Given as goal

abbrev pub invariant-loop-step : goal.invariant-loop-step
invariant-loop-step l = l.join.spec ≡ triple_join
