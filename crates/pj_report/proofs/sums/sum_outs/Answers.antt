use Rattle.std.proofs.Common.{◌++◌, take}
use Rattle.pj_events.specs.Outcomes.{elements_out}
use Rattle.pj_report.proofs.Counting.{counts_more}
use Rattle.pj_report.proofs.Summing.{total_more}
use Rattle.pj_report.proofs.sums.sum_outs.Goals as goal

pub loop-handed-preserved : goal.loop-handed-preserved
loop-handed-preserved c =
    let outs = c.args.outs.now in
    let i = c.loop-handed.handed-index in
    let h = c.handed-item.result in
    record {
      counted = λ before is. counts_more outs i h before _ c.loop-handed-test.true c.handed-item.is (c.count.ensures (before ++ elements_out (take i outs)) (c.loop-handed.invariant.counted before is));
      summed = λ before is. total_more outs i h before _ c.loop-handed-test.true c.handed-item.is (c.add_to.ensures (before ++ elements_out (take i outs)) (c.loop-handed.invariant.summed before is));
    }
