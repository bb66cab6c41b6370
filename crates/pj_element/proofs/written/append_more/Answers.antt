use Rattle.pj_element.proofs.Spellings.{one_more_member}
use Rattle.pj_element.proofs.written.append_more.Goals as goal

pub loop-value-preserved : goal.loop-value-preserved
loop-value-preserved c =
    one_more_member c.args.values.now c.loop-value.value-index c.value-item.result c.args.out.now c.loop-value.out c.push.new.self c.value_text.new.out c.loop-value-test.true c.value-item.is c.loop-value.invariant c.in_ok-push.ensures.ok c.in_ok-value_text.ensures.ok
