use Rattle.std.proofs.Common.{◌++◌, take}
use Rattle.pj_events.specs.Outcomes.{elements_out}
use Rattle.pj_report.specs.Sorted.{punct_lines, row_lines}
use Rattle.pj_report.proofs.Counting.{counts_more, kept_more, punct_lines-append, row_lines-append}
use Rattle.pj_report.proofs.Firsts.{first_so, kept_still}
use Rattle.pj_report.proofs.kept.KeptLines.keep.Goals as goal

pub loop-handed-preserved : goal.loop-handed-preserved
loop-handed-preserved c =
    let outs = c.args.outs.now in
    let i = c.loop-handed.handed-index in
    let h = c.handed-item.result in
    record {
      rows = kept_more row_lines row_lines-append outs i h _ _ _ c.loop-handed-test.true c.handed-item.is c.loop-handed.invariant.rows c.in_ok-keep_one.ensures.rows;
      puncts = kept_more punct_lines punct_lines-append outs i h _ _ _ c.loop-handed-test.true c.handed-item.is c.loop-handed.invariant.puncts c.in_ok-keep_one.ensures.puncts;
      counted = λ before is. counts_more outs i h before _ c.loop-handed-test.true c.handed-item.is (c.count.ensures (before ++ elements_out (take i outs)) (c.loop-handed.invariant.counted before is));
    }

pub returns-in_err-keep_one-clause-refused : goal.returns-in_err-keep_one-clause-refused
returns-in_err-keep_one-clause-refused c =
    first_so c.from_residual.result c.args.outs.now c.loop-handed.handed-index _
    (kept_still c.args.self.now c.loop-handed.self c.keep_one.new.self (elements_out (take c.loop-handed.handed-index c.args.outs.now)) c.in_err-keep_one.ensures.refused c.loop-handed.invariant.rows c.loop-handed.invariant.puncts, c.loop-handed.invariant.counted)
