use Rattle.std.proofs.Common.{◌∙◌, IfErr, List, ap, subst, sym}
use Rattle.pj_plan.specs.declared.node.PlanNode.{PlanNode}
use Rattle.pj_core.specs.Plans.{RunPlan}
use Rattle.pj_report.specs.Forms.{shown}
use Rattle.pj_report.specs.Written.{WritesBy, write_cut}
use Rattle.pj_parallel.specs.Settling.{SettleStops}
use Rattle.pj_parallel.proofs.Stops.{leaves-some}
use Rattle.pj_parallel.proofs.settling.settle.Goals as goal

pub returns-clause-stops : goal.returns-clause-stops
returns-clause-stops g c =
    let form = c.args.results.now.form in
    let old = g.K.Sink.state c.args.out.now in
    let new = g.K.Sink.state c.take-written.new.out in
    subst (λ r. IfErr r (SettleStops form c.args.core.now c.settle_core-handed.new.core old new)) (sym c.turn_end.ensures)
    (leaves-some form c.args.core.now c.settle_core-handed.new.core c.settle_core-handed.result.outs c.as_slice.result.now c.settle_core-handed.result.stop c.take-written.result old new c.settle_core-handed.ensures.settled c.as_slice.ensures
    (λ t. subst (λ (nodes : List PlanNode). WritesBy write_cut (shown form nodes c.as_slice.result.now) old new c.take-written.result) (c.plan.ensures ∙ ap (λ (p : RunPlan). p.nodes) c.settle_core-handed.ensures.plan) (c.take-written.ensures.lines t)))
