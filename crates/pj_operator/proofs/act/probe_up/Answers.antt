use Rattle.std.proofs.Common.{slice_index_or, subst, ◌∙◌}
use Rattle.pj_operator.specs.Acts.{StateProbes}
use Rattle.pj_operator.proofs.Changes.{frames-state, has-probed, may-found, probe-stop}
use Rattle.pj_operator.proofs.Emits.{emits-these, may-these, stops-these}
use Rattle.pj_operator.proofs.act.probe_up.Goals as goal

pub emit_each-requires-clause-may : goal.emit_each-requires-clause-may
emit_each-requires-clause-may c =
    may-these _ _ _ _ c.of_found.ensures
    (may-found c.args.operators.now c.args.place c.index-operators-place.result c.probe.new.self c.new-found.result c.probe.new.rows c.in-Ok-Some._ticket c.requires.there c.new-found.ensures
    (subst (StateProbes (slice_index_or c.args.operators.now c.args.place c.index-operators-place.result).state c.probe.new.self c.new-found.result c.probe.new.rows) c.in-Ok-Some.field-0-is c.in-Ok-Some.ensures.ok)
    c.probe.ensures.kind c.requires.linked c.requires.orderly c.in-Ok-Some.ensures.orderly)

pub returns-in-Ok-clause-ok : goal.returns-in-Ok-clause-ok
returns-in-Ok-clause-ok c =
    has-probed c.args.operators.now c.args.place c.index-operators-place.result c.probe.new.self c.new-found.result c.probe.new.rows c.in-Ok-Some._ticket c.requires.there c.new-found.ensures
    (subst (StateProbes (slice_index_or c.args.operators.now c.args.place c.index-operators-place.result).state c.probe.new.self c.new-found.result c.probe.new.rows) c.in-Ok-Some.field-0-is c.in-Ok-Some.ensures.ok)
    c.args.outs.now c.emit_each.new.outs c.emit_each.new.operators (emits-these _ _ _ _ _ c.of_found.ensures c.in-Ok.ensures.ok) c.emit_each.ensures.stays

pub returns-in-Ok-clause-frames : goal.returns-in-Ok-clause-frames
returns-in-Ok-clause-frames c = c.emit_each.ensures.stays.frames ∙ frames-state c.args.operators.now c.args.place c.index-operators-place.result c.probe.new.self c.probe.ensures.kind

pub returns-in-Err-emit_each-clause-err : goal.returns-in-Err-emit_each-clause-err
returns-in-Err-emit_each-clause-err c =
    probe-stop c.args.operators.now c.args.place c.index-operators-place.result c.probe.new.self c.new-found.result c.probe.new.rows c.in-Ok-Some._ticket c.requires.there c.new-found.ensures
    (subst (StateProbes (slice_index_or c.args.operators.now c.args.place c.index-operators-place.result).state c.probe.new.self c.new-found.result c.probe.new.rows) c.in-Ok-Some.field-0-is c.in-Ok-Some.ensures.ok)
    c.in-Err-emit_each.stop (stops-these _ _ _ _ _ c.of_found.ensures c.in-Err-emit_each.ensures.err) c.requires.some

pub returns-in-Err-emit_each-clause-frames : goal.returns-in-Err-emit_each-clause-frames
returns-in-Err-emit_each-clause-frames c = c.emit_each.ensures.stays.frames ∙ frames-state c.args.operators.now c.args.place c.index-operators-place.result c.probe.new.self c.probe.ensures.kind
