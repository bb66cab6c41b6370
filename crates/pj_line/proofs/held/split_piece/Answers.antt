use Rattle.std.proofs.Common.{Some, refl, subst, arith, zero-add}
use Rattle.pj_line.specs.FirstFeed.{IsFeedAt}
use Rattle.pj_line.proofs.HeldPieces.{none_fed}
use Rattle.pj_line.proofs.Feeds.{searched_none, searched_some}
use Rattle.pj_line.proofs.held.split_piece.Goals as goal

pub returns-in-None : goal.returns-in-None
returns-in-None c = none_fed c.args.bytes.now (searched_none c.args.bytes.now c.args.bytes.now 0 refl tt c.in-None.ensures)

pub cut_at_feed-requires : goal.cut_at_feed-requires
cut_at_feed-requires c = subst (λ n. IsFeedAt c.args.bytes.now (Some n)) (zero-add c.in-Some.at) (searched_some c.args.bytes.now c.args.bytes.now 0 c.in-Some.at (omega arith) refl tt c.in-Some.ensures)
