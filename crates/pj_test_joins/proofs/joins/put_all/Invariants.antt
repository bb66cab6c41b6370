use Rattle.std.proofs.Common.{◌≡◌}
use Rattle.pj_test_joins.specs.Triples.{triple_join}
use Rattle.pj_test_joins.proofs.joins.put_all.Given as goal

abbrev pub invariant-loop-input : goal.invariant-loop-input
invariant-loop-input l = l.join.spec ≡ triple_join
