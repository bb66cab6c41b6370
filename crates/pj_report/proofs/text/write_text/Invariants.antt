use Rattle.std.proofs.Common.{◌≡◌, ◌≤◌, ◌-◌, ◌++◌, IsTrue, length, take}
use Rattle.pj_report.proofs.text.write_text.Given as goal

abbrev pub invariant-loop-at : goal.invariant-loop-at
invariant-loop-at g l = record {
  within : l.at ≤ length l.text;
  later : (g.K.Sink.state l.fn.out).faults ≤ (g.K.Sink.state l.out).faults;
  told : IsTrue (g.K.Sink.state l.out).told → IsTrue (g.K.Sink.state l.fn.out).told;
  text : IsTrue (g.K.Sink.state l.out).told → (g.K.Sink.state l.out).written ≡ (g.K.Sink.state l.fn.out).written ++ take l.at l.text;
}

abbrev pub decreases-loop-at : goal.decreases-loop-at
decreases-loop-at g l = length l.text - l.at
