use Rattle.std.proofs.Common.{◌≡◌}
use Rattle.pj_test_joins.specs.Triples.{triple_join}
use Rattle.pj_test_joins.proofs.plain_sweeps.give_all_but.Given as goal

abbrev pub invariant-loop-at : goal.invariant-loop-at
invariant-loop-at l = l.join.spec ≡ triple_join
