use Rattle.std.proofs.Common.{◌∙◌, List, IsTrue, ap, subst}
use Rattle.pj_plan.specs.declared.node.PlanNode.{PlanNode}
use Rattle.pj_core.specs.Cores.{CoreState}
use Rattle.pj_report.specs.Forms.{shown}
use Rattle.pj_report.specs.Written.{WritesBy, write_cut}
use Rattle.pj_run.proofs.TurnLaws.{same_nodes}
use Rattle.pj_run.proofs.WholeLaws.{end_wrote, shown_are_lines, wrote_lines}
use Rattle.pj_replay.proofs.Settled.{settle_leaves, settle_stops}
use Rattle.pj_replay.proofs.settling.settle.Given.{Over}
use Rattle.pj_replay.proofs.settling.settle.Goals.{After-take-written}
use Rattle.pj_replay.proofs.settling.settle.Goals as goal

-- the lines of what was handed out
wrote : (g : Over) (c : After-take-written g) → IsTrue (g.K.Sink.state c.take-written.new.out).told
    → WritesBy write_cut (shown c.args.results.now.form c.args.hand.now.core.plan.nodes c.as_slice.result.now) (g.K.Sink.state c.args.out.now) (g.K.Sink.state c.take-written.new.out) c.take-written.result
wrote g c t =
    subst (λ (nodes : List PlanNode). WritesBy write_cut (shown c.args.results.now.form nodes c.as_slice.result.now) (g.K.Sink.state c.args.out.now) (g.K.Sink.state c.take-written.new.out) c.take-written.result)
    (c.plan-plan.ensures ∙ (ap (λ (k : CoreState). k.plan.nodes) c.core.ensures ∙ same_nodes c.settle_hand-handed.ensures.plan)) (c.take-written.ensures.lines t)

pub returns-clause-lines : goal.returns-clause-lines
returns-clause-lines g c = λ t history stood.
    settle_leaves c.args.results.now.form c.args.hand.now c.settle_hand-handed.new.hand c.settle_hand-handed.result.outs c.as_slice.result.now c.settle_hand-handed.result.stop history c.settle_hand-handed.ensures.settled c.as_slice.ensures stood
    c.take-written.result c.turn_end.result (g.K.Sink.state c.args.out.now) (g.K.Sink.state c.take-written.new.out) c.turn_end.ensures (wrote g (goal.at.returns-clause-lines g c).After-take-written t)

pub returns-clause-stops : goal.returns-clause-stops
returns-clause-stops g c =
    settle_stops c.args.results.now.form c.args.hand.now c.settle_hand-handed.new.hand c.settle_hand-handed.result.outs c.as_slice.result.now c.as_slice.ensures (g.K.Sink.state c.args.out.now) (g.K.Sink.state c.take-written.new.out)
    c.settle_hand-handed.result.stop c.take-written.result c.turn_end.result c.settle_hand-handed.ensures.settled c.turn_end.ensures (wrote g (goal.at.returns-clause-stops g c).After-take-written)

pub returns-clause-whole : goal.returns-clause-whole
returns-clause-whole g c = λ names t.
    let form = c.args.results.now.form in
    let nodes = c.args.hand.now.core.plan.nodes in
    let old = g.K.Sink.state c.args.out.now in
    let new = g.K.Sink.state c.take-written.new.out in
    end_wrote c.take-written.result c.settle_hand-handed.result.stop c.turn_end.result old new c.turn_end.ensures
    (wrote_lines write_cut (shown form nodes c.as_slice.result.now) old new c.take-written.result (shown_are_lines form nodes c.as_slice.result.now names) (wrote g (goal.at.returns-clause-whole g c).After-take-written t))
