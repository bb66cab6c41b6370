use Rattle.pj_test_joins.proofs.Triangles.{triangle_is_certified}
use Rattle.pj_test_joins.proofs.joins.triangle_join.Goals as goal

pub new-requires-clause-certified : goal.new-requires-clause-certified
new-requires-clause-certified c = triangle_is_certified c.in_ok-spec.spec c.in_ok-triangle_schemes.field-0 c.in_ok-triangle_certs.field-0 c.in_ok-spec.ensures c.in_ok-triangle_schemes.ensures c.in_ok-triangle_certs.ensures
