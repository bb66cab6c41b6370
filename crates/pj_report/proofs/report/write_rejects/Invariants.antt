use Rattle.std.proofs.Common.{◌≡◌, ◌≤◌, ◌++◌, IsTrue, map, take}
use Rattle.pj_report.specs.Report.{reject_line}
use Rattle.pj_report.specs.Written.{flat}
use Rattle.pj_report.proofs.report.write_rejects.Given as goal

abbrev pub invariant-loop-line : goal.invariant-loop-line
invariant-loop-line g l = record {
  later : (g.K.Sink.state l.fn.out).faults ≤ (g.K.Sink.state l.out).faults;
  told : IsTrue (g.K.Sink.state l.out).told → IsTrue (g.K.Sink.state l.fn.out).told;
  lines : IsTrue (g.K.Sink.state l.out).told → (g.K.Sink.state l.out).written ≡ (g.K.Sink.state l.fn.out).written ++ flat (map (reject_line l.name) (take l.line-index l.rejects));
}
