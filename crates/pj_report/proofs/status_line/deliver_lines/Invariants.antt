use Rattle.std.proofs.Common.{◌≡◌, ◌≤◌, ◌++◌, IsTrue, take}
use Rattle.pj_report.specs.Written.{flat}
use Rattle.pj_report.proofs.status_line.deliver_lines.Given as goal

abbrev pub invariant-loop-line : goal.invariant-loop-line
invariant-loop-line g l = record {
  later : (g.K.Sink.state l.fn.out).faults ≤ (g.K.Sink.state l.out).faults;
  told : IsTrue (g.K.Sink.state l.out).told → IsTrue (g.K.Sink.state l.fn.out).told;
  lines : IsTrue (g.K.Sink.state l.out).told → (g.K.Sink.state l.out).written ≡ (g.K.Sink.state l.fn.out).written ++ flat (take l.line-index l.lines);
}
