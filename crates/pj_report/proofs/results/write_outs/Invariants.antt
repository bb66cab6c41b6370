use Rattle.std.proofs.Common.{◌≡◌, ◌≤◌, ◌++◌, IsTrue, List, take}
use Rattle.pj_pattern.specs.declared.element.Element.{Element}
use Rattle.pj_events.specs.Outcomes.{elements_out}
use Rattle.pj_report.specs.Results.{out_lines, counts_of}
use Rattle.pj_report.specs.Written.{flat}
use Rattle.pj_report.proofs.results.write_outs.Given as goal

abbrev pub invariant-loop-handed : goal.invariant-loop-handed
invariant-loop-handed g l = record {
  later : (g.K.Sink.state l.fn.out).faults ≤ (g.K.Sink.state l.out).faults;
  told : IsTrue (g.K.Sink.state l.out).told → IsTrue (g.K.Sink.state l.fn.out).told;
  lines : IsTrue (g.K.Sink.state l.out).told → (g.K.Sink.state l.out).written ≡ (g.K.Sink.state l.fn.out).written ++ flat (out_lines l.plan.nodes (take l.handed-index l.outs));
  counted : (before : List Element) → l.fn.counts ≡ counts_of before → l.counts ≡ counts_of (before ++ elements_out (take l.handed-index l.outs));
}
