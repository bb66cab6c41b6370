use Rattle.std.proofs.Common.{◌++◌, ◌+◌, take, drop, ◌∙◌, ap, get_or, arith, subst, List, ℕ, ◌≡◌, refl}
use Rattle.pj_plan.specs.Canonical.{no_node}
use Rattle.pj_plan.specs.Nodes.{streams_in}
use Rattle.pj_element.specs.declared.tally.Tally.{Tally}
use Rattle.pj_run.specs.Outcome.{tally_lines}
use Rattle.pj_report.specs.Report.{stream_lines}
use Rattle.pj_report.specs.Written.{flat, write_cut, Leaves}
use Rattle.pj_report.proofs.LinesWritten.{stopped_then, written_then}
use Rattle.pj_feed.proofs.StreamNodes.{name-met, met-there}
use Rattle.pj_run.proofs.Tallies.{all-taken, tally_more, tally_rest}
use Rattle.pj_run.proofs.report.write_streams.Goals as goal

pub returns-in_err-write_stream-clause-lines : goal.returns-in_err-write_stream-clause-lines
returns-in_err-write_stream-clause-lines g c = λ told.
    let numbers = c.streams-streams.result.now in
    let streams = streams_in c.args.plan.now.nodes in
    let tallies = c.args.tallies.now in
    let i = c.loop-i.i in
    let t = c.index-tallies-i.result in
    let there = met-there c.args.plan.now.nodes numbers i c.streams-streams.ensures c.loop-i-test.true in
    let named = name-met c.args.plan.now.nodes numbers i (get_or numbers i 0) c.name.result.now c.streams-streams.ensures c.loop-i-test.true refl c.name.ensures in
    let stop = c.in_err-write_stream.field-0.0 in
    let mid = g.K.Sink.state c.loop-i.out in
    let new = g.K.Sink.state c.write_stream.new.out in
    let lines = stream_lines (get_or streams i no_node).name (get_or tallies i t) in
    let written : Leaves (write_cut stop) lines mid.written new.written =
    subst (λ (x : Tally). Leaves (write_cut stop) (stream_lines (get_or streams i no_node).name x) mid.written new.written) c.index-tallies-i.is
    (subst (λ (n : List ℕ). Leaves (write_cut stop) (stream_lines n t) mid.written new.written) named (c.in_err-write_stream.ensures.lines told)) in
    stopped_then write_cut c.from_residual.result stop (tally_lines (take i streams) (take i tallies)) lines (tally_lines (drop (i + 1) streams) (drop (i + 1) tallies)) (tally_lines streams tallies) (g.K.Sink.state c.args.out.now) mid new
    (c.loop-i.invariant.lines (c.in_err-write_stream.ensures.told told)) written
    (ap (λ (ls : List (List ℕ)). ls ++ tally_lines (drop (i + 1) streams) (drop (i + 1) tallies)) (tally_more i streams tallies no_node t there c.requires) ∙ tally_rest (i + 1) streams tallies c.requires)
    c.from_residual.ensures.1

pub loop-i-preserved : goal.loop-i-preserved
loop-i-preserved g c =
    let numbers = c.streams-streams.result.now in
    let streams = streams_in c.args.plan.now.nodes in
    let tallies = c.args.tallies.now in
    let i = c.loop-i.i in
    let t = c.index-tallies-i.result in
    let there = met-there c.args.plan.now.nodes numbers i c.streams-streams.ensures c.loop-i-test.true in
    let named = name-met c.args.plan.now.nodes numbers i (get_or numbers i 0) c.name.result.now c.streams-streams.ensures c.loop-i-test.true refl c.name.ensures in
    let old = g.K.Sink.state c.args.out.now in
    let mid = g.K.Sink.state c.loop-i.out in
    let new = g.K.Sink.state c.write_stream.new.out in
    let lines = stream_lines (get_or streams i no_node).name (get_or tallies i t) in
    record {
      later = omega (arith, c.in_ok-write_stream.ensures.later);
      told = λ told. c.loop-i.invariant.told (c.in_ok-write_stream.ensures.told told);
      lines = λ told. subst (λ (ls : List (List ℕ)). new.written ≡ old.written ++ flat ls) (tally_more i streams tallies no_node t there c.requires)
          (written_then (tally_lines (take i streams) (take i tallies)) lines old.written mid.written new.written (c.loop-i.invariant.lines (c.in_ok-write_stream.ensures.told told))
          (subst (λ (x : Tally). new.written ≡ mid.written ++ flat (stream_lines (get_or streams i no_node).name x)) c.index-tallies-i.is
          (subst (λ (n : List ℕ). new.written ≡ mid.written ++ flat (stream_lines n t)) named (c.in_ok-write_stream.ensures.lines told))));
    }

pub returns-clause-lines : goal.returns-clause-lines
returns-clause-lines g c = λ told.
    let streams = streams_in c.args.plan.now.nodes in
    let tallies = c.args.tallies.now in
    let old = g.K.Sink.state c.args.out.now in
    let now = g.K.Sink.state c.loop-i.out in
    subst (λ (ls : List (List ℕ)). now.written ≡ old.written ++ flat ls)
    (all-taken c.args.plan.now.nodes c.streams-streams.result.now tallies c.loop-i.i c.streams-streams.ensures c.requires (omega (arith, c.loop-i-test.false))) (c.loop-i.invariant.lines told)
