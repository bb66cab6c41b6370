use Rattle.std.proofs.Common.{◌≡◌, ◌≤◌, ◌-◌, ◌++◌, IsTrue, length, take}
use Rattle.pj_io.proofs.sink.write_all.Given as goal

abbrev pub invariant-loop-done : goal.invariant-loop-done
invariant-loop-done g l = record {
  within : l.done ≤ length l.piece;
  told : IsTrue (g.K.Sink.state l.sink).told → IsTrue (g.K.Sink.state l.fn.sink).told;
  bytes : IsTrue (g.K.Sink.state l.sink).told → (g.K.Sink.state l.sink).written ≡ (g.K.Sink.state l.fn.sink).written ++ take l.done l.piece;
  later : (g.K.Sink.state l.fn.sink).faults ≤ (g.K.Sink.state l.sink).faults;
}

abbrev pub decreases-loop-done : goal.decreases-loop-done
decreases-loop-done g l = length l.piece - l.done
