use Rattle.std.proofs.Common.{◌∙◌}
use Rattle.pj_waiting.specs.Holding.{waiting_in}
use Rattle.pj_waiting.proofs.Listed.{least_at_other, none_at_end, takes_more, under_at_end, under_at_other}
use Rattle.pj_waiting.proofs.waiting.Waiting.append_under.Goals as goal

pub loop-listing-preserved : goal.loop-listing-preserved
loop-listing-preserved c =
    takes_more c.args.blocker c.into_iter-listing-iterator.result c.loop-listing.listing-iterator c.next.new.self c.args.listed.now c.loop-listing.listed c.push.new.self c.in-Some.listing.now c.loop-listing.invariant c.in-Some.ensures.steps c.in_ok-push.ensures.ok c.if-listing-blocker.false

pub returns-then-listing-blocker-clause-found : goal.returns-then-listing-blocker-clause-found
returns-then-listing-blocker-clause-found c =
    rw (← c.self.view_is) (under_at_other (waiting_in c.self.inside.puncts.entries) c.args.blocker c.self.inside.by_blocker c.into_iter-listing-iterator.result c.loop-listing.listing-iterator c.args.listed.now c.loop-listing.listed
    (c.into_iter-listing-iterator.ensures.into_iter_gives ∙ c.range-listing-items.ensures.between tt) c.loop-listing.invariant c.in-Some.listing.now c.next.new.self c.range-listing-items.ensures.ordered c.in-Some.ensures.steps c.if-listing-blocker.true)

pub returns-then-listing-blocker-clause-some : goal.returns-then-listing-blocker-clause-some
returns-then-listing-blocker-clause-some c =
    rw (← c.self.view_is) (least_at_other (waiting_in c.self.inside.puncts.entries) c.args.blocker c.self.inside.by_blocker c.into_iter-listing-iterator.result c.loop-listing.listing-iterator c.args.listed.now c.loop-listing.listed
    (c.into_iter-listing-iterator.ensures.into_iter_gives ∙ c.range-listing-items.ensures.between tt) c.loop-listing.invariant c.in-Some.listing.now c.next.new.self c.range-listing-items.ensures.ordered c.in-Some.ensures.steps)

pub returns-clause-found : goal.returns-clause-found
returns-clause-found c =
    rw (← c.self.view_is) (under_at_end (waiting_in c.self.inside.puncts.entries) c.args.blocker c.self.inside.by_blocker c.into_iter-listing-iterator.result c.loop-listing.listing-iterator c.args.listed.now c.loop-listing.listed
    (c.into_iter-listing-iterator.ensures.into_iter_gives ∙ c.range-listing-items.ensures.between tt) c.loop-listing.invariant c.in-None.ensures.steps.0)

pub returns-clause-none : goal.returns-clause-none
returns-clause-none c =
    rw (← c.self.view_is) (none_at_end (waiting_in c.self.inside.puncts.entries) c.args.blocker c.self.inside.by_blocker c.into_iter-listing-iterator.result c.loop-listing.listing-iterator c.args.listed.now c.loop-listing.listed
    (c.into_iter-listing-iterator.ensures.into_iter_gives ∙ c.range-listing-items.ensures.between tt) c.loop-listing.invariant c.in-None.ensures.steps.0)
