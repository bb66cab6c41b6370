use Rattle.pj_line.proofs.HeldPieces.{fed_parts}
use Rattle.pj_line.proofs.held.cut_at_feed.Goals as goal

pub returns-clause-parts : goal.returns-clause-parts
returns-clause-parts c = (fed_parts c.args.bytes.now _ _ _ c.args.at c.requires c.split_at.ensures.front c.split_at.ensures.back c.split_at-2.ensures.back).0
