use Rattle.std.proofs.Common.{[], ◌∷◌, ◌++◌, ◌≡◌, map, ◌∙◌, refl, subst, List, ℕ, append-nil}
use Rattle.pj_element.specs.declared.element.Reject.{Reject}
use Rattle.pj_report.specs.Report.{stream_line, stream_lines, reject_line}
use Rattle.pj_report.specs.Written.{flat, write_cut, Leaves}
use Rattle.pj_report.proofs.LinesWritten.{one_line, stopped_first, stopped_then, written_then}
use Rattle.pj_report.proofs.report.write_stream.Goals as goal

pub returns-in_err-write_piece-clause-lines : goal.returns-in_err-write_piece-clause-lines
returns-in_err-write_piece-clause-lines g c = λ t.
    let line = stream_line c.args.name.now c.args.tally.now in
    stopped_first write_cut c.from_residual-in_err-write_piece.result c.in_err-write_piece.field-0.0 (line ∷ []) (map (reject_line c.args.name.now) c.args.tally.now.listed) (stream_lines c.args.name.now c.args.tally.now)
    (g.K.Sink.state c.args.out.now) (g.K.Sink.state c.write_piece.new.out) (c.in_err-write_piece.ensures.lines (line ∷ []) (one_line _ _ (c.as_slice.ensures ∙ c.in_ok-stream_text.ensures)) t) refl
    c.from_residual-in_err-write_piece.ensures.1

pub returns-in_err-write_rejects-clause-lines : goal.returns-in_err-write_rejects-clause-lines
returns-in_err-write_rejects-clause-lines g c = λ t.
    let line = stream_line c.args.name.now c.args.tally.now in
    let stop = c.in_err-write_rejects.field-0.0 in
    let mid = g.K.Sink.state c.write_piece.new.out in
    let new = g.K.Sink.state c.write_rejects.new.out in
    stopped_then write_cut c.from_residual-in_err-write_rejects.result stop (line ∷ []) (map (reject_line c.args.name.now) c.args.tally.now.listed) [] (stream_lines c.args.name.now c.args.tally.now) (g.K.Sink.state c.args.out.now) mid new
    (c.in_ok-write_piece.ensures.lines (line ∷ []) (one_line _ _ (c.as_slice.ensures ∙ c.in_ok-stream_text.ensures)) (c.in_err-write_rejects.ensures.told t))
    (subst (λ (rs : List (ℕ × Reject)). Leaves (write_cut stop) (map (reject_line c.args.name.now) rs) mid.written new.written) c.as_slice-2.ensures (c.in_err-write_rejects.ensures.lines t))
    (append-nil _) c.from_residual-in_err-write_rejects.ensures.1

pub returns-clause-lines : goal.returns-clause-lines
returns-clause-lines g c = λ t.
    let line = stream_line c.args.name.now c.args.tally.now in
    let old = g.K.Sink.state c.args.out.now in
    let mid = g.K.Sink.state c.write_piece.new.out in
    let new = g.K.Sink.state c.write_rejects.new.out in
    written_then (line ∷ []) (map (reject_line c.args.name.now) c.args.tally.now.listed) old.written mid.written new.written
    (c.in_ok-write_piece.ensures.lines (line ∷ []) (one_line _ _ (c.as_slice.ensures ∙ c.in_ok-stream_text.ensures)) (c.in_ok-write_rejects.ensures.told t))
    (subst (λ (rs : List (ℕ × Reject)). new.written ≡ mid.written ++ flat (map (reject_line c.args.name.now) rs)) c.as_slice-2.ensures (c.in_ok-write_rejects.ensures.lines t))
