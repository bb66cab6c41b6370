use Rattle.std.proofs.Common.{subst, sym}
use Rattle.pj_core.specs.Plans.{RunPlan}
use Rattle.pj_hub.specs.Hubs.{hub_with}
use Rattle.pj_hub.specs.declared.made.MadeWith.{MadeWith}
use Rattle.pj_test_threads.specs.Auctions.{IsAuction, IsAuctionPlan}
use Rattle.pj_test_threads.proofs.Auctions.{auction-of, if-ok}
use Rattle.pj_test_threads.proofs.hubs.hub_of.Goals as goal

pub returns-clause-auction : goal.returns-clause-auction
returns-clause-auction c =
    let core = c.in_ok-core.core in
    let fresh = c.in_ok-core.ensures in
    if-ok c.new.result _ _ c.new.ensures.hub (λ r is.
    subst (λ (made : MadeWith). IsAuction (hub_with made)) (sym is.1)
    (auction-of core.plan core.limit fresh.sound (subst (λ (plan : RunPlan). IsAuctionPlan plan.nodes) (sym fresh.of_plan) c.requires.auction)))
