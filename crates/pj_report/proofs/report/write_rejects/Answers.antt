use Rattle.std.proofs.Common.{[], ◌∷◌, ◌++◌, ◌+◌, map, take, drop, ◌∙◌, ap, get_or, arith, subst, List, ℕ, ◌≡◌}
use Rattle.pj_element.specs.declared.element.Reject.TheVariants.{TooLong}
use Rattle.pj_report.specs.Report.{reject_line}
use Rattle.pj_report.specs.Written.{flat, write_cut}
use Rattle.pj_report.proofs.LinesWritten.{one_line, stopped_none, stopped_then, written_then, map_more, map_rest}
use Rattle.pj_report.proofs.report.write_rejects.Goals as goal

pub returns-in_err-reject_text-clause-lines : goal.returns-in_err-reject_text-clause-lines
returns-in_err-reject_text-clause-lines g c = λ t.
    let f = reject_line c.args.name.now in
    let xs = c.args.rejects.now in
    let i = c.loop-line.line-index in
    stopped_none write_cut c.from_residual.result _ (map f (take i xs)) (map f (drop i xs)) (map f xs) (g.K.Sink.state c.args.out.now) (g.K.Sink.state c.loop-line.out) (c.loop-line.invariant.lines t) (map_rest f xs i)
    c.from_residual.ensures.1

pub returns-in_err-write_piece-clause-lines : goal.returns-in_err-write_piece-clause-lines
returns-in_err-write_piece-clause-lines g c = λ t.
    let f = reject_line c.args.name.now in
    let xs = c.args.rejects.now in
    let i = c.loop-line.line-index in
    let line = f (get_or xs i (0, TooLong)) in
    stopped_then write_cut c.from_residual-in_err-write_piece.result c.in_err-write_piece.field-0.0 (map f (take i xs)) (line ∷ []) (map f (drop (i + 1) xs)) (map f xs) (g.K.Sink.state c.args.out.now)
    (g.K.Sink.state c.loop-line.out) (g.K.Sink.state c.write_piece.new.out) (c.loop-line.invariant.lines (c.in_err-write_piece.ensures.told t))
    (c.in_err-write_piece.ensures.lines (line ∷ []) (one_line _ _ (c.as_slice.ensures ∙ c.in_ok-reject_text.ensures)) t)
    (ap (λ (ls : List (List ℕ)). ls ++ map f (drop (i + 1) xs)) (map_more f xs i (0, TooLong) c.loop-line-test.true) ∙ map_rest f xs (i + 1)) c.from_residual-in_err-write_piece.ensures.1

pub loop-line-preserved : goal.loop-line-preserved
loop-line-preserved g c =
    let f = reject_line c.args.name.now in
    let xs = c.args.rejects.now in
    let i = c.loop-line.line-index in
    let line = f (get_or xs i (0, TooLong)) in
    let old = g.K.Sink.state c.args.out.now in
    let mid = g.K.Sink.state c.loop-line.out in
    let new = g.K.Sink.state c.write_piece.new.out in
    record {
      later = omega (arith, c.in_ok-write_piece.ensures.later);
      told = λ t. c.loop-line.invariant.told (c.in_ok-write_piece.ensures.told t);
      lines = λ t. subst (λ (ls : List (List ℕ)). new.written ≡ old.written ++ flat ls) (map_more f xs i (0, TooLong) c.loop-line-test.true)
          (written_then (map f (take i xs)) (line ∷ []) old.written mid.written new.written (c.loop-line.invariant.lines (c.in_ok-write_piece.ensures.told t))
          (c.in_ok-write_piece.ensures.lines (line ∷ []) (one_line _ _ (c.as_slice.ensures ∙ c.in_ok-reject_text.ensures)) t));
    }
