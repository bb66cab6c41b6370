use Rattle.std.proofs.Common.{◌≡◌, ◌∙◌, Some, ap, refl, subst, sym}
use Rattle.std.specs.List.{slice_get}
use Rattle.pj_feed.specs.Feeds.{FeedState}
use Rattle.pj_feed.proofs.AllFeeds.{get_set, same_set}
use Rattle.pj_replay.proofs.Made.{here-at}
use Rattle.pj_replay.proofs.arriving.next_at.Goals as goal

pub returns-in-Err-clause-err : goal.returns-in-Err-clause-err
returns-in-Err-clause-err g c =
    let here = here-at c.args.feeds.now.feeds.items c.args.stream c.index_mut.result.now c.requires.open c.index_mut.ensures.value in
    let is = subst (λ (f : FeedState). slice_get c.args.feeds.now.feeds.items c.args.stream ≡ Some f) here.1 here.0.is in record {
      of = refl;
      before = c.index_mut.result.now;
      now = c.next_of.new.feed;
      was = is;
      is_now = get_set c.args.feeds.now.feeds.items c.args.stream c.index_mut.result.now c.next_of.new.feed is;
      still = ap (λ (f : FeedState). f.is_open) (sym here.1) ∙ here.0.still;
      same = same_set c.args.feeds.now.feeds.items c.args.stream c.index_mut.result.now c.next_of.new.feed is c.in-Err.ensures.same;
      ends = c.in-Err.ensures.stops;
    }
