use Rattle.std.proofs.Common.{List, ◌∙◌, ap}
use Rattle.pj_value.specs.declared.values.Value.{Value}
use Rattle.pj_cert.specs.Fresh.{with_marks}
use Rattle.pj_cert.specs.Instances.{constants_of}
use Rattle.pj_cert.proofs.FreeValues.{marks_on}
use Rattle.pj_cert.proofs.fresh.mark_listed.Goals as goal

pub loop-instance-preserved : goal.loop-instance-preserved
loop-instance-preserved c =
    marks_on c.loop-instance.taken c.mark_all.new.taken (with_marks c.args.taken.now (constants_of c.args.listed.now)) c.args.listed.now c.loop-instance.instance-index
    c.instance-item.result c.loop-instance.invariant c.loop-instance-test.true c.instance-item.is
    (c.mark_all.ensures ∙ ap (λ (vs : List Value). with_marks c.loop-instance.taken vs) c.as_slice.ensures)
