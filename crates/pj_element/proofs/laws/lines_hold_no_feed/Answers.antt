use Rattle.pj_element.proofs.Feeds.{row_no_feed, punct_no_feed}
use Rattle.pj_element.proofs.laws.lines_hold_no_feed.Goals as goal

pub returns : goal.returns
returns c = record { rows = row_no_feed; puncts = punct_no_feed }
