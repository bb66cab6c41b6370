use Rattle.pj_feed.proofs.Closing.{HasClosed}
use Rattle.pj_feed.proofs.files.close_feeds.Given as goal

abbrev pub invariant-loop-feed : goal.invariant-loop-feed
invariant-loop-feed g l = record { so_far : HasClosed l.fn.feeds.items l.rest.rest.items (g.F.Folder.state l.fn.folder) (g.F.Folder.state l.folder) l.tallies }

abbrev pub decreases-loop-feed : goal.decreases-loop-feed
decreases-loop-feed g l = l.rest.rest.len
