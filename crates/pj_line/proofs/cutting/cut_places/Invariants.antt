use Rattle.std.proofs.Common.{length, ◌-◌}
use Rattle.pj_line.specs.Places.{AreWithin, cells_at}
use Rattle.pj_line.proofs.CutCells.{CutTo}
use Rattle.pj_line.proofs.cutting.cut_places.Given as goal

abbrev pub invariant-loop-place : goal.invariant-loop-place
invariant-loop-place l = record {
  cut : CutTo l.line (cells_at l.line l.places.items) l.from;
  within : AreWithin l.line l.places.items;
}

abbrev pub decreases-loop-place : goal.decreases-loop-place
decreases-loop-place l = length l.line - l.from
