use Rattle.std.proofs.Common.{◌∙◌}
use Rattle.pj_operator.proofs.Changes.{frames-operator, may-swept, opens-operator, opens-then}
use Rattle.pj_operator.proofs.Emits.{may-these}
use Rattle.pj_operator.proofs.act.sweep_on.Goals as goal

pub emit_each-requires-clause-may : goal.emit_each-requires-clause-may
emit_each-requires-clause-may c =
    may-these _ _ _ _ c.of_puncts.ensures
    (may-swept c.args.operators.now c.args.place c.index-operators-place.result c.sweep.new.self c.args.input _ c.requires.there c.in-Ok.ensures.ok c.sweep.ensures.frame c.in-Ok.ensures.open c.requires.linked c.requires.orderly)

pub returns-in-Ok-emit_each-clause-frames : goal.returns-in-Ok-emit_each-clause-frames
returns-in-Ok-emit_each-clause-frames c = c.emit_each.ensures.stays.frames ∙ frames-operator c.args.operators.now c.args.place c.index-operators-place.result c.sweep.new.self c.sweep.ensures.frame

pub returns-in-Ok-emit_each-clause-opens : goal.returns-in-Ok-emit_each-clause-opens
returns-in-Ok-emit_each-clause-opens c = opens-then _ _ _ (opens-operator c.args.operators.now c.args.place c.index-operators-place.result c.sweep.new.self c.requires.there c.in-Ok.ensures.open) c.emit_each.ensures.stays.opens

pub returns-in-Err-emit_each-clause-frames : goal.returns-in-Err-emit_each-clause-frames
returns-in-Err-emit_each-clause-frames c = c.emit_each.ensures.stays.frames ∙ frames-operator c.args.operators.now c.args.place c.index-operators-place.result c.sweep.new.self c.sweep.ensures.frame

pub returns-in-Err-emit_each-clause-opens : goal.returns-in-Err-emit_each-clause-opens
returns-in-Err-emit_each-clause-opens c = opens-then _ _ _ (opens-operator c.args.operators.now c.args.place c.index-operators-place.result c.sweep.new.self c.requires.there c.in-Ok.ensures.open) c.emit_each.ensures.stays.opens

pub returns-in-Err-hand_out_notes-clause-frames : goal.returns-in-Err-hand_out_notes-clause-frames
returns-in-Err-hand_out_notes-clause-frames c = frames-operator c.args.operators.now c.args.place c.index-operators-place.result c.sweep.new.self c.sweep.ensures.frame

pub returns-in-Err-clause-frames : goal.returns-in-Err-clause-frames
returns-in-Err-clause-frames c = frames-operator c.args.operators.now c.args.place c.index-operators-place.result c.sweep.new.self c.sweep.ensures.frame
