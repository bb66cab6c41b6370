use Rattle.std.proofs.Common.{◌≡◌}
use Rattle.pj_test_joins.specs.Triples.{triple_join}
use Rattle.pj_test_joins.proofs.joins.matches.Given as goal

abbrev pub invariant-loop-n : goal.invariant-loop-n
invariant-loop-n l = l.join.spec ≡ triple_join
