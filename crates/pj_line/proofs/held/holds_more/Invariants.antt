use Rattle.std.proofs.Common.{◌≡◌, length}
use Rattle.std.specs.List.{list_any}
use Rattle.pj_line.specs.Lines.{fed_pieces}
use Rattle.pj_line.specs.Buffers.{piece_counts}
use Rattle.pj_line.proofs.held.holds_more.Given as goal

abbrev pub invariant-loop-piece : goal.invariant-loop-piece
invariant-loop-piece l = list_any (piece_counts l.size) (fed_pieces l.rest) ≡ list_any (piece_counts l.size) (fed_pieces l.fn.bytes)

abbrev pub decreases-loop-piece : goal.decreases-loop-piece
decreases-loop-piece l = length l.rest
