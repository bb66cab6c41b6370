use Rattle.std.proofs.Common.{arith}
use Rattle.pj_line.proofs.Cuts.{no_mark, quote_closes, slash_at_end, slash_takes}
use Rattle.pj_line.proofs.cutting.quoted_len.Goals as goal

pub returns-in-None : goal.returns-in-None
returns-in-None c = no_mark c.args.bytes.now _ c.loop-run.at c.loop-run.invariant.leads c.split_at.ensures.back c.in-None.ensures

pub returns-then-bytes-stop-eq34 : goal.returns-then-bytes-stop-eq34
returns-then-bytes-stop-eq34 c =
    let first = c.in-Some.ensures in (
      omega (arith, first.0.high, c.split_at.ensures.back_len),
      omega arith,
      quote_closes c.args.bytes.now _ c.loop-run.at c.in-Some.run' c.loop-run.invariant.leads c.split_at.ensures.back first.0.high first.0.before (omega (arith, first.0.high, c.split_at.ensures.back_len)) c.if-bytes-stop-eq34.true,
    )

pub returns-then-stop-bytes : goal.returns-then-stop-bytes
returns-then-stop-bytes c =
    let first = c.in-Some.ensures in
    slash_at_end c.args.bytes.now _ c.loop-run.at c.in-Some.run' c.loop-run.invariant.leads c.split_at.ensures.back first.0.high first.0.before first.1 c.if-stop-bytes.true c.if-bytes-stop-eq34.false

pub loop-run-preserved : goal.loop-run-preserved
loop-run-preserved c =
    let first = c.in-Some.ensures in record {
      within = omega (arith, first.0.high, c.split_at.ensures.back_len, c.if-stop-bytes.false);
      leads = slash_takes c.args.bytes.now _ c.loop-run.at c.in-Some.run' c.loop-run.invariant.leads c.split_at.ensures.back first.0.high first.0.before first.1 (omega (arith, first.0.high, c.split_at.ensures.back_len, c.if-stop-bytes.false)) c.if-bytes-stop-eq34.false;
    }
