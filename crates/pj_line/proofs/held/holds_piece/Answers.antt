use Rattle.std.proofs.Common.{ap, sym, subst}
use Rattle.std.specs.List.{list_any}
use Rattle.pj_line.specs.Buffers.{piece_counts}
use Rattle.pj_line.specs.FirstFeed.{IsFeedAt}
use Rattle.pj_line.proofs.HeldPieces.{none_fed}
use Rattle.pj_line.proofs.held.holds_piece.Goals as goal

pub returns-in-None : goal.returns-in-None
returns-in-None c =
    ap (list_any (piece_counts c.args.size)) (sym (none_fed c.args.bytes.now (subst (IsFeedAt c.args.bytes.now) c.in-None.is c.requires)))
