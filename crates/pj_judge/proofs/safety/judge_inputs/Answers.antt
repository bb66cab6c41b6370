use Rattle.std.proofs.Common.{◌≡◌, ℕ, arith, length, subst}
use Rattle.pj_graph.specs.Reaching.{IsReach}
use Rattle.pj_judge.specs.Asked.{AreCertified}
use Rattle.pj_judge.proofs.Inputs.{one_certified}
use Rattle.pj_judge.proofs.safety.judge_inputs.Goals as goal

pub loop-input-preserved : goal.loop-input-preserved
loop-input-preserved c =
    one_certified c.args.asked.now c.loop-input.input c.in-All.cert c.loop-input.certs c.push.new.self c.saturations_are_told.ensures c.loop-input.invariant
    (subst (IsReach c.args.asked.now.spec c.args.asked.now.schemes c.loop-input.input) c.in-All.is c.in_ok-cert.ensures.reached) c.in_ok-push-in-All.ensures.ok

pub returns : goal.returns
returns c =
    let end : c.loop-input.input ≡ length c.args.asked.now.spec.inputs = omega (arith, c.inputs-input-end.ensures.count) in
    subst (λ (n : ℕ). AreCertified c.args.asked.now n c.loop-input.certs) end c.loop-input.invariant
