use Rattle.std.proofs.Common.{sym, subst}
use Rattle.pj_cert.specs.Instances.{AreInstances}
use Rattle.pj_judge.proofs.check.append_stuck.Goals as goal

pub escape-requires-clause-listed : goal.escape-requires-clause-listed
escape-requires-clause-listed c = subst (AreInstances c.asked.inside.spec.now c.asked.inside.schemes) (sym c.as_slice-2.ensures) c.in_ok-listed.ensures.given
