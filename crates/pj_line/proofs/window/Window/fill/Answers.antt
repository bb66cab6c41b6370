use Rattle.std.proofs.Common.{◌≡◌, ◌+◌, ◌++◌, List, ℕ, length, slice_range, take, drop, ap, sym, ◌∙◌, rules, arith}
use Rattle.std.proofs.lemmas.List.{with_items_is, places, length-take-le, length-drop}
use Rattle.std.specs.Vec.{with_items}
use Rattle.pj_line.specs.FirstFeed.{first_feed}
use Rattle.pj_line.specs.Held.{held}
use Rattle.pj_line.proofs.Feeds.{first_is, is_first}
use Rattle.pj_line.proofs.Windows.{front_keeps, front_grows, front_of_more, on_err}
use Rattle.pj_line.proofs.window.Window.fill.Goals as goal

pub returns-in_err-count-clause-none : goal.returns-in_err-count-clause-none
returns-in_err-count-clause-none g c =
    let window = c.make_room.new.self in
    let now = c.read_behind.new.bytes in
    let items : (with_items window.bytes now).items ≡ now = with_items_is window.bytes now (search (rules, places)) in
    let front : take window.end now ≡ take window.end window.bytes.items = c.read_behind.ensures.front ∙ ap (take window.end) c.as_mut_slice.ensures.value in
    let kept : slice_range (with_items window.bytes now).items window.start window.end ≡ held c.args.self.now =
    rw items (front_keeps window.bytes.items now window.start window.end window.ordered front ∙ c.make_room.ensures.held) in
    on_err _ _ kept

pub returns-clause-some : goal.returns-clause-some
returns-clause-some g c =
    let window = c.make_room.new.self in
    let now = c.read_behind.new.bytes in
    let n = c.in_ok-count.count in
    let items : (with_items window.bytes now).items ≡ now = with_items_is window.bytes now (search (rules, places)) in
    let front : take window.end now ≡ take window.end window.bytes.items = c.read_behind.ensures.front ∙ ap (take window.end) c.as_mut_slice.ensures.value in
    let bound = c.in_ok-count.ensures.bound in
    let long : length (take n (drop window.end now)) ≡ n = length-take-le n (drop window.end now) (omega (arith, bound.1, length-drop window.end now)) in (
      take n (drop window.end now),
      long,
      bound.0,
      rw items (front_grows window.bytes.items now window.start window.end n window.ordered front ∙ ap (λ (bytes : List ℕ). bytes ++ take n (drop window.end now)) c.make_room.ensures.held),
      c.in_ok-count.ensures.some,
    )

pub invariant_of-self : goal.invariant_of-self
invariant_of-self g c =
    let window = c.make_room.new.self in
    let now = c.read_behind.new.bytes in
    let items : (with_items window.bytes now).items ≡ now = with_items_is window.bytes now (search (rules, places)) in
    let front : take window.end now ≡ take window.end window.bytes.items = c.read_behind.ensures.front ∙ ap (take window.end) c.as_mut_slice.ensures.value in
    let kept : slice_range (with_items window.bytes now).items window.start window.end ≡ held window = rw items (front_keeps window.bytes.items now window.start window.end window.ordered front) in
    record { ordered = window.ordered; within = window.within; found = window.found ∙ ap first_feed (sym kept) }

pub feed_behind-feed-requires-clause-searched : goal.feed_behind-feed-requires-clause-searched
feed_behind-feed-requires-clause-searched g c =
    let window = c.make_room.new.self in
    let now = c.read_behind.new.bytes in
    let items : (with_items window.bytes now).items ≡ now = with_items_is window.bytes now (search (rules, places)) in
    let front : take window.end now ≡ take window.end window.bytes.items = c.read_behind.ensures.front ∙ ap (take window.end) c.as_mut_slice.ensures.value in
    let same : c.as_slice.result.now ≡ now = c.as_slice.ensures.value ∙ items in
    rw same (rw (front_of_more window.bytes.items now window.start window.end c.in_ok-count.count window.ordered front) (rw window.found (first_is (held window))))

pub invariant_of-self-2-clause-found : goal.invariant_of-self-2-clause-found
invariant_of-self-2-clause-found g c =
    let window = c.make_room.new.self in
    is_first _ c.feed_behind-feed.result c.feed_behind-feed.ensures
    ∙ ap (λ (xs : List ℕ). first_feed (slice_range xs window.start (window.end + c.in_ok-count.count))) c.as_slice.ensures.value
