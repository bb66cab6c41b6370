use Rattle.std.proofs.Common.{[], ◌∷◌, ◌++◌, ◌≡◌, ◌+◌, take, drop, ◌∙◌, ap, arith, subst, List, ℕ}
use Rattle.pj_events.specs.Outcomes.{elements_out}
use Rattle.pj_report.specs.Results.{out_lines}
use Rattle.pj_report.specs.Written.{flat, write_cut}
use Rattle.pj_report.proofs.LinesWritten.{one_line, stopped_none, stopped_then, written_then}
use Rattle.pj_report.proofs.Counting.{lines_more, lines_rest, counts_more}
use Rattle.pj_report.proofs.Firsts.{all_counted, first_so}
use Rattle.pj_report.proofs.results.write_outs.Goals as goal

pub returns-in_err-out_text-clause-lines : goal.returns-in_err-out_text-clause-lines
returns-in_err-out_text-clause-lines g c = λ t.
    let nodes = c.args.plan.now.nodes in
    let outs = c.args.outs.now in
    let i = c.loop-handed.handed-index in
    stopped_none write_cut c.from_residual.result _ (out_lines nodes (take i outs)) (out_lines nodes (drop i outs)) (out_lines nodes outs) (g.K.Sink.state c.args.out.now) (g.K.Sink.state c.loop-handed.out) (c.loop-handed.invariant.lines t)
    (lines_rest nodes outs i) c.from_residual.ensures.1

pub returns-in_err-write_piece-clause-lines : goal.returns-in_err-write_piece-clause-lines
returns-in_err-write_piece-clause-lines g c = λ t.
    let nodes = c.args.plan.now.nodes in
    let outs = c.args.outs.now in
    let i = c.loop-handed.handed-index in
    let h = c.handed-item.result in
    let lines = out_lines nodes (h ∷ []) in
    stopped_then write_cut c.from_residual-in_err-write_piece.result c.in_err-write_piece.field-0.0 (out_lines nodes (take i outs)) lines (out_lines nodes (drop (i + 1) outs)) (out_lines nodes outs) (g.K.Sink.state c.args.out.now)
    (g.K.Sink.state c.loop-handed.out) (g.K.Sink.state c.write_piece.new.out) (c.loop-handed.invariant.lines (c.in_err-write_piece.ensures.told t))
    (c.in_err-write_piece.ensures.lines lines (one_line _ _ (c.as_slice.ensures ∙ c.in_ok-out_text.ensures)) t)
    (ap (λ (ls : List (List ℕ)). ls ++ out_lines nodes (drop (i + 1) outs)) (lines_more nodes outs i h c.loop-handed-test.true c.handed-item.is) ∙ lines_rest nodes outs (i + 1)) c.from_residual-in_err-write_piece.ensures.1

pub loop-handed-preserved : goal.loop-handed-preserved
loop-handed-preserved g c =
    let nodes = c.args.plan.now.nodes in
    let outs = c.args.outs.now in
    let i = c.loop-handed.handed-index in
    let h = c.handed-item.result in
    let lines = out_lines nodes (h ∷ []) in
    let old = g.K.Sink.state c.args.out.now in
    let mid = g.K.Sink.state c.loop-handed.out in
    let new = g.K.Sink.state c.write_piece.new.out in
    record {
      later = omega (arith, c.in_ok-write_piece.ensures.later);
      told = λ t. c.loop-handed.invariant.told (c.in_ok-write_piece.ensures.told t);
      lines = λ t. subst (λ (ls : List (List ℕ)). new.written ≡ old.written ++ flat ls) (lines_more nodes outs i h c.loop-handed-test.true c.handed-item.is)
          (written_then (out_lines nodes (take i outs)) lines old.written mid.written new.written (c.loop-handed.invariant.lines (c.in_ok-write_piece.ensures.told t))
          (c.in_ok-write_piece.ensures.lines lines (one_line _ _ (c.as_slice.ensures ∙ c.in_ok-out_text.ensures)) t));
      counted = λ before is. counts_more outs i h before _ c.loop-handed-test.true c.handed-item.is (c.count.ensures (before ++ elements_out (take i outs)) (c.loop-handed.invariant.counted before is));
    }

pub returns-in_err-out_text-clause-refused : goal.returns-in_err-out_text-clause-refused
returns-in_err-out_text-clause-refused g c = first_so c.from_residual.result c.args.outs.now c.loop-handed.handed-index _ c.loop-handed.invariant.counted

pub returns-in_err-write_piece-clause-refused : goal.returns-in_err-write_piece-clause-refused
returns-in_err-write_piece-clause-refused g c = first_so c.from_residual-in_err-write_piece.result c.args.outs.now c.loop-handed.handed-index _ c.loop-handed.invariant.counted

pub returns-clause-counted : goal.returns-clause-counted
returns-clause-counted g c = λ before is. all_counted c.args.outs.now c.loop-handed.handed-index before c.loop-handed.counts c.loop-handed-test.false (c.loop-handed.invariant.counted before is)
