use Rattle.std.proofs.Common.{◌≡◌, ◌≤◌, ◌-◌, ◌+◌, IsTrue, length}
use Rattle.pj_io.specs.Pieces.{Consumes}
use Rattle.pj_io.proofs.whole.read_whole.Given as goal

abbrev pub invariant-loop-buffer : goal.invariant-loop-buffer
invariant-loop-buffer g l = record {
  within : length l.whole ≤ l.limit + 1;
  told : (g.S.Source.state l.source).told ≡ (g.S.Source.state l.fn.source).told;
  name : (g.S.Source.state l.source).name ≡ (g.S.Source.state l.fn.source).name;
  later : (g.S.Source.state l.fn.source).faults ≤ (g.S.Source.state l.source).faults;
  bytes : IsTrue (g.S.Source.state l.fn.source).told → Consumes (g.S.Source.state l.fn.source) (g.S.Source.state l.source) l.whole;
}

abbrev pub decreases-loop-buffer : goal.decreases-loop-buffer
decreases-loop-buffer g l = l.limit + 1 - length l.whole
