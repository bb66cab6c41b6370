use Rattle.std.proofs.Common.{sym, ◌∙◌}
use Rattle.pj_cert.proofs.TestedSteps.{not_all}
use Rattle.pj_cert.proofs.verified.all_known.Goals as goal

pub returns-then-not-is_among : goal.returns-then-not-is_among
returns-then-not-is_among c =
    sym (not_all c.args.known.now c.loop-k.k c.args.count c.loop-k-test.true (sym c.is_among.ensures ∙ c.if-not-is_among.true))
