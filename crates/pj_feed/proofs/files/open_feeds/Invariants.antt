use Rattle.std.proofs.Common.{◌≡◌, length, take}
use Rattle.std.specs.Prelude.{vec_capacity}
use Rattle.pj_io.specs.Folders.{NoneFalls, SameEverywhere}
use Rattle.pj_plan.specs.Nodes.{streams_in}
use Rattle.pj_feed.specs.Opened.{AreFeedsOf, AreOpened, OpensFirst, StayOutside}
use Rattle.pj_feed.proofs.files.open_feeds.Given as goal

abbrev pub invariant-loop-i : goal.invariant-loop-i
invariant-loop-i g l = record {
  count : length l.feeds.items ≡ l.i;
  room : vec_capacity l.feeds ≡ vec_capacity l.fn.feeds;
  told : (g.F.Folder.state l.folder).told ≡ (g.F.Folder.state l.fn.folder).told;
  contents : (g.F.Folder.state l.folder).contents ≡ (g.F.Folder.state l.fn.folder).contents;
  feeds : AreFeedsOf 0 (streams_in l.plan.nodes) l.names (g.F.Folder.state l.fn.folder) l.feeds.items;
  opened : AreOpened (g.F.Folder.state l.folder).opened l.feeds.items;
  opens : OpensFirst l.i l.names (g.F.Folder.state l.fn.folder) (g.F.Folder.state l.folder);
  last : SameEverywhere (g.F.Folder.state l.fn.folder).last (g.F.Folder.state l.folder).last;
  later : NoneFalls (g.F.Folder.state l.fn.folder).faults (g.F.Folder.state l.folder).faults;
  others : StayOutside (take l.i l.names) (g.F.Folder.state l.fn.folder) (g.F.Folder.state l.folder);
}
