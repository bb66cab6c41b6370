use Rattle.pj_line.proofs.Feeds.{searched_none, searched_some}
use Rattle.pj_line.proofs.window.find_behind.Goals as goal

pub returns-in-None : goal.returns-in-None
returns-in-None c = searched_none c.args.bytes.now _ c.args.searched c.split_at.ensures.back c.requires.searched c.in-None.ensures

pub returns-in-Some : goal.returns-in-Some
returns-in-Some c = searched_some c.args.bytes.now _ c.args.searched _ c.requires.within c.split_at.ensures.back c.requires.searched c.in-Some.ensures
