use Rattle.std.proofs.Common.{sym, subst}
use Rattle.pj_line.specs.FirstFeed.{IsFeedAt}
use Rattle.pj_line.specs.Held.{held}
use Rattle.pj_line.proofs.Feeds.{first_is}
use Rattle.pj_line.proofs.window.Window.feed.Goals as goal

pub returns : goal.returns
returns c = subst (IsFeedAt (held c.args.self.now)) (sym c.args.self.now.found) (first_is (held c.args.self.now))
