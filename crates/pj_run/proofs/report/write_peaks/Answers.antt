use Rattle.pj_report.specs.Report.{peak_line}
use Rattle.pj_run.proofs.Notes.{peak_is_note}
use Rattle.pj_run.proofs.WholeLaws.{leaves_lines, leaves_then, lines_wrote, note_is_line, stop_wrote, wrote_then}
use Rattle.std.proofs.Common.{◌≡◌, ◌<◌, ◌+◌, ◌++◌, [], ◌∷◌, List, ℕ, map, take, drop, length, get_or, refl, ap, ◌∙◌, subst, arith}
use Rattle.pj_plan.specs.Nodes.{joins_of}
use Rattle.pj_run.specs.Runs.{peak_report}
use Rattle.pj_report.specs.Written.{flat, write_cut, Leaves}
use Rattle.pj_run.proofs.JoinNodes.{join-met, peak-line-is}
use Rattle.pj_report.proofs.LinesWritten.{stopped_then, written_then, map_more, map_rest}
use Rattle.pj_run.proofs.report.write_peaks.Goals as goal

pub peak-requires : goal.peak-requires
peak-requires g c =
    let are = c.joins-join-items.ensures ∙ ap joins_of c.plan.ensures in
    join-met c.args.core.now c.joins-join-items.result.now c.loop-join.join-index (get_or c.joins-join-items.result.now c.loop-join.join-index 0) are c.loop-join-test.true refl

pub returns-in_err-write_peak_line-clause-lines : goal.returns-in_err-write_peak_line-clause-lines
returns-in_err-write_peak_line-clause-lines g c = λ t history stands.
    let core = c.args.core.now in
    let f = peak_report core.plan history in
    let xs = joins_of core.plan.nodes in
    let i = c.loop-join.join-index in
    let are = c.joins-join-items.ensures ∙ ap joins_of c.plan.ensures in
    let there : i < length xs = subst (λ (ns : List ℕ). i < length ns) are c.loop-join-test.true in
    let line = f (get_or xs i 0) in
    let stop = c.in_err-write_peak_line.field-0.0 in
    let mid = g.K.Sink.state c.loop-join.out in
    let new = g.K.Sink.state c.write_peak_line.new.out in
    let is = peak-line-is core history c.joins-join-items.result.now i c.peak.result c.name.result.now c.plan-in-loop-join.result.now c.plan-in-loop-join.ensures are c.name.ensures c.peak.ensures c.requires stands in
    stopped_then write_cut c.from_residual.result stop (map f (take i xs)) (line ∷ []) (map f (drop (i + 1) xs)) (map f xs) (g.K.Sink.state c.args.out.now) mid new
    (c.loop-join.invariant.lines (c.in_err-write_peak_line.ensures.told t) history stands)
    (subst (λ (ls : List (List ℕ)). Leaves (write_cut stop) ls mid.written new.written) is (c.in_err-write_peak_line.ensures.lines t))
    (ap (λ (ls : List (List ℕ)). ls ++ map f (drop (i + 1) xs)) (map_more f xs i 0 there) ∙ map_rest f xs (i + 1)) c.from_residual.ensures.1

pub loop-join-preserved : goal.loop-join-preserved
loop-join-preserved g c =
    let core = c.args.core.now in
    let xs = joins_of core.plan.nodes in
    let i = c.loop-join.join-index in
    let are = c.joins-join-items.ensures ∙ ap joins_of c.plan.ensures in
    let there : i < length xs = subst (λ (ns : List ℕ). i < length ns) are c.loop-join-test.true in
    let old = g.K.Sink.state c.args.out.now in
    let mid = g.K.Sink.state c.loop-join.out in
    let new = g.K.Sink.state c.write_peak_line.new.out in
    record {
      later = omega (arith, c.in_ok-write_peak_line.ensures.later);
      told = λ t. c.loop-join.invariant.told (c.in_ok-write_peak_line.ensures.told t);
      lines = λ t history stands.
          let f = peak_report core.plan history in
          let line = f (get_or xs i 0) in
          let is = peak-line-is core history c.joins-join-items.result.now i c.peak.result c.name.result.now c.plan-in-loop-join.result.now c.plan-in-loop-join.ensures are c.name.ensures c.peak.ensures c.requires stands in
          subst (λ (ls : List (List ℕ)). new.written ≡ old.written ++ flat ls) (map_more f xs i 0 there)
          (written_then (map f (take i xs)) (line ∷ []) old.written mid.written new.written (c.loop-join.invariant.lines (c.in_ok-write_peak_line.ensures.told t) history stands)
          (subst (λ (ls : List (List ℕ)). new.written ≡ mid.written ++ flat ls) is (c.in_ok-write_peak_line.ensures.lines t)));
      whole = λ plain t.
          wrote_then old.written mid.written new.written (c.loop-join.invariant.whole plain (c.in_ok-write_peak_line.ensures.told t))
          (lines_wrote (peak_line c.name.result.now c.peak.result ∷ []) mid.written new.written (note_is_line _ (peak_is_note c.args.core.now.plan.nodes c.plan-in-loop-join.result.now.nodes (get_or c.joins-join-items.result.now c.loop-join.join-index 0) c.peak.result c.name.result.now c.plan-in-loop-join.ensures c.name.ensures plain)) (c.in_ok-write_peak_line.ensures.lines t));
    }

pub returns-in_err-write_peak_line-clause-whole : goal.returns-in_err-write_peak_line-clause-whole
returns-in_err-write_peak_line-clause-whole g c = λ plain t.
    let why = c.in_err-write_peak_line.field-0.0 in
    let old = g.K.Sink.state c.args.out.now in
    let mid = g.K.Sink.state c.loop-join.out in
    let new = g.K.Sink.state c.write_peak_line.new.out in
    stop_wrote write_cut c.from_residual.result why old new
    (leaves_then (write_cut why) old.written mid.written new.written (c.loop-join.invariant.whole plain (c.in_err-write_peak_line.ensures.told t))
    (leaves_lines (write_cut why) _ mid.written new.written (note_is_line _ (peak_is_note c.args.core.now.plan.nodes c.plan-in-loop-join.result.now.nodes (get_or c.joins-join-items.result.now c.loop-join.join-index 0) c.peak.result c.name.result.now c.plan-in-loop-join.ensures c.name.ensures plain)) (c.in_err-write_peak_line.ensures.lines t)))
    c.from_residual.ensures.1
