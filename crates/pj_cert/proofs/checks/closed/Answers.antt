use Rattle.std.proofs.Common.{sym, ◌∙◌}
use Rattle.pj_cert.proofs.ClosedSets.{closed_if, if_closed}
use Rattle.pj_cert.proofs.checks.closed.Goals as goal

pub returns : goal.returns
returns c = (
  λ t. closed_if c.args.spec.now c.args.schemes.now c.args.reached.now (sym c.none_escapes.ensures ∙ t),
  λ h. c.none_escapes.ensures ∙ if_closed c.args.spec.now c.args.schemes.now c.args.reached.now h,
)
