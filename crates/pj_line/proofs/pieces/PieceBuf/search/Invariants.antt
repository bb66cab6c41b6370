use Rattle.std.proofs.Common.{◌≡◌, ◌≤◌}
use Rattle.pj_line.specs.Searches.{buffered}
use Rattle.pj_line.proofs.Searching.{Searching, turns_left}
use Rattle.pj_line.proofs.pieces.PieceBuf.search.Given as goal

abbrev pub invariant-loop-found : goal.invariant-loop-found
invariant-loop-found g l = record {
  searching : Searching (buffered l.fn.self) (buffered l.self) (g.S.Source.state l.fn.source) (g.S.Source.state l.source) l.too_long;
  name : (g.S.Source.state l.source).name ≡ (g.S.Source.state l.fn.source).name;
  later : (g.S.Source.state l.fn.source).faults ≤ (g.S.Source.state l.source).faults;
}

abbrev pub decreases-loop-found : goal.decreases-loop-found
decreases-loop-found g l = turns_left (buffered l.self)
