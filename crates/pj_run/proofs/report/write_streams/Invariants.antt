use Rattle.std.proofs.Common.{◌≡◌, ◌≤◌, ◌++◌, IsTrue, take}
use Rattle.pj_plan.specs.Nodes.{streams_in}
use Rattle.pj_run.specs.Outcome.{tally_lines}
use Rattle.pj_report.specs.Written.{flat}
use Rattle.pj_run.proofs.report.write_streams.Given as goal

abbrev pub invariant-loop-i : goal.invariant-loop-i
invariant-loop-i g l = record {
  later : (g.K.Sink.state l.fn.out).faults ≤ (g.K.Sink.state l.out).faults;
  told : IsTrue (g.K.Sink.state l.out).told → IsTrue (g.K.Sink.state l.fn.out).told;
  lines : IsTrue (g.K.Sink.state l.out).told → (g.K.Sink.state l.out).written ≡ (g.K.Sink.state l.fn.out).written ++ flat (tally_lines (take l.i (streams_in l.plan.nodes)) (take l.i l.tallies));
}
