use Rattle.std.proofs.Common.{sym, subst}
use Rattle.pj_cert.specs.Instances.{AreInstances}
use Rattle.pj_test_plans.proofs.certificates.rows_of.Goals as goal

pub escape-requires-clause-listed : goal.escape-requires-clause-listed
escape-requires-clause-listed c = subst (AreInstances c.args.join.now.spec c.args.join.now.schemes) (sym c.as_slice-then-closed.ensures) c.in_ok-listed.ensures.given
