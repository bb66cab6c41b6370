use Rattle.std.proofs.Common.{rules, refl}
use Rattle.pj_element.proofs.Splits.{values_more}
use Rattle.pj_element.proofs.forms.read_values.Goals as goal

pub loop-values-preserved : goal.loop-values-preserved
loop-values-preserved c =
    let read = values_more c.args.bytes.now c.loop-values.rest.now c.split_at.result.0.now c.split_at.result.1.now _ c.loop-values.values c.in-Some.value c.part_len.result c.loop-values.invariant c.part_len.ensures c.split_at.ensures.front c.split_at.ensures.back (search rules) (search rules) refl in
    rw c.in_ok-push-in-Some.ensures.ok read
