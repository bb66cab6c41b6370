use Rattle.std.proofs.Common.{slice_index_or, subst}
use Rattle.pj_operator.specs.Acts.{StateProbes}
use Rattle.pj_operator.proofs.Changes.{frames-state, has-probed-out}
use Rattle.pj_operator.proofs.act.probe_out.Goals as goal

pub returns-in-Ok-Some-clause-ok : goal.returns-in-Ok-Some-clause-ok
returns-in-Ok-Some-clause-ok c =
    has-probed-out c.args.operators.now c.args.place c.index-operators-place.result c.probe.new.self c.args.outs.now c.probe.new.rows c.in-Ok-Some._ticket c.requires.there
    (subst (StateProbes (slice_index_or c.args.operators.now c.args.place c.index-operators-place.result).state c.probe.new.self c.args.outs.now c.probe.new.rows) c.in-Ok-Some.field-0-is c.in-Ok-Some.ensures.ok)
    c.requires.top c.probe.ensures.kind

pub returns-in-Ok-Some-clause-frames : goal.returns-in-Ok-Some-clause-frames
returns-in-Ok-Some-clause-frames c = frames-state c.args.operators.now c.args.place c.index-operators-place.result c.probe.new.self c.probe.ensures.kind
