use Rattle.pj_report.proofs.LineLists.{lent_all, lent_more, lent_none, next_fits}
use Rattle.pj_report.proofs.line_list.lend_pieces.Goals as goal

pub split_at-requires : goal.split_at-requires
split_at-requires c = next_fits c.args.lens.now c.args.bytes.now _ _ c.loop-len.len-index 0 c.loop-len.invariant c.loop-len-test.true

pub loop-len-init : goal.loop-len-init
loop-len-init c = lent_none c.args.lens.now c.args.bytes.now c.in_ok-lines.lines.items c.requires c.in_ok-lines.ensures.items

pub loop-len-preserved : goal.loop-len-preserved
loop-len-preserved c =
    lent_more c.args.lens.now c.args.bytes.now _ _ _ _ _ c.loop-len.len-index 0 c.loop-len.invariant c.loop-len-test.true c.split_at.ensures.front c.split_at.ensures.back c.in_ok-push.ensures.items

pub returns : goal.returns
returns c = lent_all c.args.lens.now c.args.bytes.now _ _ c.loop-len.len-index c.loop-len.invariant c.loop-len-test.false
