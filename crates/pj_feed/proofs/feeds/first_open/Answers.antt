use Rattle.std.proofs.Common.{◌∙◌, sym, arith}
use Rattle.pj_feed.proofs.Opens.{shut_none, shut_more, shut_all, first_found}
use Rattle.pj_feed.proofs.feeds.first_open.Goals as goal

pub loop-place-init : goal.loop-place-init
loop-place-init g c = shut_none c.args.feeds.now c.args.from

pub returns-then-is_open : goal.returns-then-is_open
returns-then-is_open g c = first_found c.args.feeds.now c.args.from c.loop-place.place c.index-feeds-place.result c.loop-place.auto.place c.loop-place-test.true c.index-feeds-place.is (sym c.is_open.ensures ∙ c.if-is_open.true) c.loop-place.invariant

pub loop-place-preserved : goal.loop-place-preserved
loop-place-preserved g c = shut_more c.args.feeds.now c.args.from c.loop-place.place c.index-feeds-place.result c.loop-place.auto.place c.loop-place-test.true c.index-feeds-place.is (sym c.is_open.ensures ∙ c.if-is_open.false) c.loop-place.invariant

pub returns : goal.returns
returns g c = shut_all c.args.feeds.now c.args.from c.loop-place.place (omega (arith, c.loop-place-test.false)) c.loop-place.invariant
