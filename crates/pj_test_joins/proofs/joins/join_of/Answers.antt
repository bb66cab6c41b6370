use Rattle.pj_test_joins.proofs.Triples.{triple_is_certified}
use Rattle.pj_test_joins.proofs.joins.join_of.Goals as goal

pub new-requires-clause-certified : goal.new-requires-clause-certified
new-requires-clause-certified c =
    triple_is_certified c.in_ok-inputs.field-0 c.in_ok-classes.field-0 c.in_ok-schemes.field-0 c.in_ok-certs.field-0 c.in_ok-inputs.ensures c.in_ok-classes.ensures c.in_ok-schemes.ensures c.in_ok-certs.ensures
