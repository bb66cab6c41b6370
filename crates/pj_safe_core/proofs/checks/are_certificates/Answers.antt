use Rattle.std.proofs.Common.{ℕ, ◌<◌, [], length, subst, ◌∙◌, arith}
use Rattle.std.proofs.lemmas.List.{get_or_default}
use Rattle.pj_shape.specs.Certificates.{IsCertificate}
use Rattle.pj_safe_core.proofs.OneByOne.{one_more}
use Rattle.pj_safe_core.proofs.checks.are_certificates.Goals as goal

pub loop-input-preserved : goal.loop-input-preserved
loop-input-preserved c =
    let n : ℕ = c.loop-input.input in
    let low : n < length c.args.certs.now = omega (arith, c.loop-input-test.true) in
    one_more c.args.spec.now c.args.schemes.now c.args.certs.now n c.loop-input.invariant
    (subst (IsCertificate c.args.spec.now c.args.schemes.now n) (c.index-certs-input.is ∙ get_or_default c.args.certs.now n c.index-certs-input.result [] low)
    (c.verify.ensures.0 c.if-not-verify.false))
