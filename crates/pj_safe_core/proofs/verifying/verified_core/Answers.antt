use Rattle.std.proofs.Common.{subst}
use Rattle.pj_safe_core.specs.Verified.{AreVerified}
use Rattle.pj_safe_core.proofs.Verified.{verified_certified}
use Rattle.pj_safe_core.proofs.verifying.verified_core.Goals as goal

pub new-requires-clause-certified : goal.new-requires-clause-certified
new-requires-clause-certified c =
    verified_certified c.args.plan.nodes c.args.certs c.args.trace c.nodes-sound.ensures.sound
    (subst (AreVerified c.args.plan.nodes) c.as_slice.ensures (c.in_ok-are_verified.ensures.0 c.if-branch.true))
