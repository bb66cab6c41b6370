use Rattle.pj_test_joins.proofs.Triples.{double_is_certified}
use Rattle.pj_test_joins.proofs.joins.double_join.Goals as goal

pub new-requires-clause-certified : goal.new-requires-clause-certified
new-requires-clause-certified c = double_is_certified c.in_ok-spec.spec c.in_ok-double_schemes.field-0 c.in_ok-double_certs.field-0 c.in_ok-spec.ensures c.in_ok-double_schemes.ensures c.in_ok-double_certs.ensures
