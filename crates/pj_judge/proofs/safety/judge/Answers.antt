use Rattle.std.proofs.Common.{◌≡◌, ℕ, ◌+◌, ◌<◌, List, length, arith, subst, sym}
use Rattle.pj_shape.specs.declared.joins.CertStep.{CertStep}
use Rattle.pj_judge.specs.Asked.{IsNodeJudged}
use Rattle.pj_judge.proofs.Plans.{FirstAreJudged, one_certified, other_more, plan_certified, plan_refused}
use Rattle.pj_judge.proofs.safety.judge.Goals.{in-Free, in-Certified+in_ok-push-in-Certified}
use Rattle.pj_judge.proofs.safety.judge.Goals as goal

pub loop-node-preserved : goal.loop-node-preserved
loop-node-preserved c =
    let n : ℕ = c.loop-node.node in
    let lt : n < length c.args.plan.now.nodes = omega (arith, c.nodes-node-end.ensures.count) in
    elim c.match-branch-3.branch [
      | in-Free w ↦
          subst (λ (certs : List (List (List CertStep))). FirstAreJudged c.args.plan.now.nodes (n + 1) certs) (sym w.certs-is)
          (other_more c.args.plan.now.nodes n c.loop-node.certs c.loop-node.invariant lt (subst (IsNodeJudged c.args.plan.now.nodes n) w.in-Free.is c.in_ok-judge_node.ensures))
      | in-Certified+in_ok-push-in-Certified w ↦
          subst (λ (certs : List (List (List CertStep))). FirstAreJudged c.args.plan.now.nodes (n + 1) certs) (sym w.certs-is)
          (one_certified c.args.plan.now.nodes n w.in-Certified.list c.loop-node.certs w.push.new.self c.loop-node.invariant lt
          (subst (IsNodeJudged c.args.plan.now.nodes n) w.in-Certified.is c.in_ok-judge_node.ensures) w.in_ok-push-in-Certified.ensures.ok)
    ]

pub returns-in-Refused-clause-judged : goal.returns-in-Refused-clause-judged
returns-in-Refused-clause-judged c =
    plan_refused c.args.plan.now.nodes c.loop-node.node c.loop-node.certs c.in-Refused.found c.loop-node.invariant (omega (arith, c.nodes-node-end.ensures.count))
    (subst (IsNodeJudged c.args.plan.now.nodes c.loop-node.node) c.in-Refused.is c.in_ok-judge_node.ensures)

pub returns-clause-judged : goal.returns-clause-judged
returns-clause-judged c =
    let end : c.loop-node.node ≡ length c.args.plan.now.nodes = omega (arith, c.nodes-node-end.ensures.count) in
    plan_certified c.args.plan.now.nodes c.loop-node.node c.loop-node.certs end c.loop-node.invariant
