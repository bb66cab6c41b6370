use Rattle.pj_run.proofs.WholeLaws.{end_wrote, shown_are_lines, wrote_lines}
use Rattle.std.proofs.Common.{◌∙◌, List, refl, subst, IsTrue}
use Rattle.pj_plan.specs.declared.node.PlanNode.{PlanNode}
use Rattle.pj_plan.specs.Nodes.{streams_in}
use Rattle.pj_feed.specs.Feeds.{turn_in}
use Rattle.pj_report.specs.Forms.{shown}
use Rattle.pj_report.specs.Written.{WritesBy, write_cut}
use Rattle.pj_run.proofs.Refused.{turn_left}
use Rattle.pj_run.proofs.TurnLaws.{end_cut, end_done, end_fault, end_leaves, end_stops, same_nodes}
use Rattle.pj_run.proofs.turns.take_turn.Given.{Over}
use Rattle.pj_run.proofs.turns.take_turn.Goals.{After-take-written}
use Rattle.pj_run.proofs.turns.take_turn.Goals as goal

-- the lines of what was handed out
wrote : (g : Over) (c : After-take-written g) → IsTrue (g.K.Sink.state c.take-written.new.out).told
    → WritesBy write_cut (shown c.args.results.now.form c.args.core.now.plan.nodes c.as_slice.result.now) (g.K.Sink.state c.args.out.now) (g.K.Sink.state c.take-written.new.out) c.take-written.result
wrote g c t =
    subst (λ (nodes : List PlanNode). WritesBy write_cut (shown c.args.results.now.form nodes c.as_slice.result.now) (g.K.Sink.state c.args.out.now) (g.K.Sink.state c.take-written.new.out) c.take-written.result)
    (c.plan.ensures ∙ same_nodes c.turn_core-handed.ensures.plan) (c.take-written.ensures.lines t)

pub returns-clause-lines : goal.returns-clause-lines
returns-clause-lines g c = λ t history stands may.
    let core = c.args.core.now in
    end_leaves c.args.results.now.form core c.turn_core-handed.new.core (turn_in (streams_in core.plan.nodes) c.args.next) c.turn_core-handed.result.outs c.as_slice.result.now c.turn_core-handed.result.stop history c.requires.drained c.turn_core-handed.ensures.turned c.as_slice.ensures stands may
    c.take-written.result c.turn_core-handed.result.stop c.turn_end.result (g.K.Sink.state c.args.out.now) (g.K.Sink.state c.take-written.new.out) refl c.turn_end.ensures (wrote g (goal.at.returns-clause-lines g c).After-take-written t)

pub returns-clause-stops : goal.returns-clause-stops
returns-clause-stops g c =
    let core = c.args.core.now in
    end_stops c.args.results.now.form core c.turn_core-handed.new.core (turn_in (streams_in core.plan.nodes) c.args.next) c.turn_core-handed.result.outs c.as_slice.result.now c.turn_core-handed.result.stop c.take-written.result c.turn_end.result (g.K.Sink.state c.args.out.now) (g.K.Sink.state c.take-written.new.out) c.turn_core-handed.ensures.turned c.as_slice.ensures c.turn_end.ensures
    (wrote g (goal.at.returns-clause-stops g c).After-take-written)

pub returns-clause-done : goal.returns-clause-done
returns-clause-done g c =
    end_done c.args.core.now c.turn_core-handed.new.core (turn_in (streams_in c.args.core.now.plan.nodes) c.args.next) c.turn_core-handed.result.outs c.as_slice.result.now c.turn_core-handed.result.stop c.take-written.result c.turn_end.result
    c.args.results.now c.take-written.new.self c.turn_core-handed.ensures.turned c.as_slice.ensures c.turn_end.ensures c.take-written.ensures.taken

pub returns-clause-fault : goal.returns-clause-fault
returns-clause-fault g c = end_fault c.turn_core-handed.result.stop c.take-written.result c.turn_end.result _ c.turn_end.ensures c.take-written.ensures.fault

pub returns-clause-cut : goal.returns-clause-cut
returns-clause-cut g c = λ stop. end_cut c.turn_core-handed.result.stop c.take-written.result c.turn_end.result stop _ c.turn_end.ensures c.take-written.ensures.fault

pub returns-clause-whole : goal.returns-clause-whole
returns-clause-whole g c = λ plain t.
    let form = c.args.results.now.form in
    let nodes = c.args.core.now.plan.nodes in
    let old = g.K.Sink.state c.args.out.now in
    let new = g.K.Sink.state c.take-written.new.out in
    end_wrote c.take-written.result c.turn_core-handed.result.stop c.turn_end.result old new c.turn_end.ensures
    (wrote_lines write_cut (shown form nodes c.as_slice.result.now) old new c.take-written.result (shown_are_lines form nodes c.as_slice.result.now plain) (wrote g (goal.at.returns-clause-whole g c).After-take-written t))

pub returns-clause-left : goal.returns-clause-left
returns-clause-left g c =
    turn_left c.turn_end.result c.args.core.now c.turn_core-handed.new.core (turn_in (streams_in c.args.core.now.plan.nodes) c.args.next) c.turn_core-handed.result.outs c.as_slice.result.now c.take-written.result c.args.results.now c.take-written.new.self
    c.turn_core-handed.ensures.over c.as_slice.ensures c.take-written.ensures.taken c.take-written.ensures.refused
