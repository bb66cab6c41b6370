use Rattle.std.proofs.Common.{ℕ, List, max, ◌∙◌, ap}
use Rattle.pj_value.specs.declared.values.Value.{Value}
use Rattle.pj_cert.specs.Fresh.{longest}
use Rattle.pj_cert.specs.Instances.{constants_of}
use Rattle.pj_cert.proofs.FreeValues.{longest_on}
use Rattle.pj_cert.proofs.fresh.longest_listed.Goals as goal

pub loop-instance-preserved : goal.loop-instance-preserved
loop-instance-preserved c =
    longest_on c.loop-instance.most c.max-most.result (longest (constants_of c.args.listed.now)) c.args.listed.now c.loop-instance.instance-index
    c.instance-item.result c.loop-instance.invariant c.loop-instance-test.true c.instance-item.is
    (c.max-most.ensures
    ∙ (ap (λ (n : ℕ). max c.loop-instance.most n) c.longest_of.ensures
    ∙ ap (λ (vs : List Value). max c.loop-instance.most (longest vs)) c.as_slice.ensures))
