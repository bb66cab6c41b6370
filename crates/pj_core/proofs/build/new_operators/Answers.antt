use Rattle.std.proofs.Common.{◌+◌, List, true, subst, sym, ◌∙◌, ap, arith}
use Rattle.pj_shape.specs.declared.joins.CertStep.{CertStep}
use Rattle.pj_core.specs.Fresh.{IsCertifiedKind, fresh_operator, joins_with}
use Rattle.pj_core.specs.Parts.{frame_for, plan_node}
use Rattle.pj_core.specs.Plans.{run_plan}
use Rattle.pj_core.proofs.Makes.{MadeSoFar, made-more, next-certified}
use Rattle.pj_core.proofs.build.new_operators.Goals as goal

pub new_operator-requires-clause-certified : goal.new_operator-requires-clause-certified
new_operator-requires-clause-certified c =
    subst (λ (own : List (List CertStep)). IsCertifiedKind (frame_for c.args.plan.now.nodes c.args.limit c.loop-number.number own (plan_node c.args.plan.now.nodes c.loop-number.number)).kind) (sym c.in_ok-own.ensures)
    (next-certified (run_plan c.args.plan.now.nodes c.args.certs.now true) c.args.limit c.loop-number.operators.items c.loop-number.joins c.loop-number.number c.loop-number.invariant (omega (arith, c.nodes-number-end.ensures.count)) c.requires.certified)

pub loop-number-preserved : goal.loop-number-preserved
loop-number-preserved c =
    subst (λ operators. MadeSoFar (run_plan c.args.plan.now.nodes c.args.certs.now true) c.args.limit operators c.joins_behind-joins.result (c.loop-number.number + 1)) (sym c.in_ok-push.ensures.items)
    (made-more (run_plan c.args.plan.now.nodes c.args.certs.now true) c.args.limit c.loop-number.operators.items c.loop-number.joins c.loop-number.number c.loop-number.invariant (omega (arith, c.nodes-number-end.ensures.count)) c.in_ok-new_operator.field-0 c.joins_behind-joins.result
    (c.in_ok-new_operator.ensures ∙ ap (λ (own : List (List CertStep)). fresh_operator (frame_for c.args.plan.now.nodes c.args.limit c.loop-number.number own (plan_node c.args.plan.now.nodes c.loop-number.number))) c.in_ok-own.ensures)
    (c.joins_behind-joins.ensures ∙ ap (λ node. joins_with node c.loop-number.joins) c.node.ensures))
