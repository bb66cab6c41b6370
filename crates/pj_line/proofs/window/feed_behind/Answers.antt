use Rattle.std.proofs.Common.{take, subst}
use Rattle.pj_line.specs.FirstFeed.{IsFeedAt}
use Rattle.pj_line.proofs.Feeds.{feed_stays}
use Rattle.pj_line.proofs.window.feed_behind.Goals as goal

pub find_behind-requires-clause-searched : goal.find_behind-requires-clause-searched
find_behind-requires-clause-searched c = subst (IsFeedAt (take c.args.searched c.args.bytes.now)) c.in-None.is c.requires.searched

pub returns-in-Some : goal.returns-in-Some
returns-in-Some c = feed_stays c.args.bytes.now c.args.searched c.in-Some.at (subst (IsFeedAt (take c.args.searched c.args.bytes.now)) c.in-Some.is c.requires.searched)
