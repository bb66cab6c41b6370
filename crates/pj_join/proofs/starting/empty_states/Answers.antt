use Rattle.std.proofs.Common.{◌∙◌, List, [], ap, get_or, arith}
use Rattle.pj_shape.specs.declared.columns.Column.{Column}
use Rattle.pj_join.proofs.Looped.{shaped_more, states_more}
use Rattle.pj_join.proofs.starting.empty_states.Goals as goal

pub loop-input-preserved : goal.loop-input-preserved
loop-input-preserved c = (
  states_more c.loop-input.row_states.items c.push.new.self.items c.in_ok-empty_state.field-0 c.loop-input.input [] c.in_ok-push.ensures.items c.in_ok-empty_state.ensures.rows c.loop-input.invariant.0,
  shaped_more c.loop-input.row_states.items c.push.new.self.items c.in_ok-empty_state.field-0 c.loop-input.input c.len-arity.result c.args.spec.now.inputs c.index-as_slice-input.result c.in_ok-push.ensures.items (omega (arith, c.loop-input-test.true)) (c.index-as_slice-input.is ∙ ap (λ (ss : List (List Column)). get_or ss c.loop-input.input c.index-as_slice-input.result) c.as_slice.ensures) c.len-arity.ensures c.in_ok-empty_state.ensures.shaped c.loop-input.invariant.1,
)
