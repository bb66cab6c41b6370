use Rattle.std.proofs.Common.{◌≡◌, List, length, subst, arith}
use Rattle.pj_io.specs.States.{SourceState}
use Rattle.pj_feed.specs.Feeds.{FeedState}
use Rattle.pj_feed.specs.Opened.{HasLasts}
use Rattle.pj_feed.proofs.Closing.{Closes, one_closed, none_left, all_closed}
use Rattle.pj_feed.proofs.files.close_feeds.Goals as goal

pub loop-feed-preserved : goal.loop-feed-preserved
loop-feed-preserved g c =
    let mid = g.F.Folder.state c.loop-feed.folder in
    let now = g.F.Folder.state c.close_file.new.self in
    let left = c.close_file.ensures in
    let file : SourceState = g.F.File.Source.state c.close-file.result.0 in
    let closes : Closes file mid now = record { opened = left.opened; told = left.told; contents = left.contents; later = left.later; faults = left.faults; last = left.last; other_faults = left.other_faults; other_last = left.other_last } in
    record {
      so_far = one_closed c.args.feeds.items c.loop-feed.rest.rest.items c.next.new.self.rest.items c.in-Some.feed c.close-file.result.1 (g.F.Folder.state c.args.folder.now) mid now c.loop-feed.tallies c.with_tally-tallies.result
          c.loop-feed.invariant.so_far c.in-Some.ensures.items (subst (λ (s : SourceState). Closes s mid now) c.close-file.ensures.source closes) c.close-file.ensures.tally c.with_tally-tallies.ensures.all
          c.with_tally-tallies.ensures.ok;
    }

pub returns-clause-last : goal.returns-clause-last
returns-clause-last g c =
    let old = g.F.Folder.state c.args.folder.now in
    let now = g.F.Folder.state c.loop-feed.folder in
    let so_far = c.loop-feed.invariant.so_far in
    let rest = c.loop-feed.rest.rest in
    let empty : length rest.items ≡ 0 = omega (arith, rest.ok, c.in_default.ensures.cases.0) in
    subst (λ (feeds : List FeedState). HasLasts feeds old.last now.last) (all_closed c.args.feeds.items rest.items old now c.loop-feed.tallies so_far (none_left rest.items empty)) so_far.last
