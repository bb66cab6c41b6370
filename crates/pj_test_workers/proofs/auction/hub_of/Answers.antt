use Rattle.std.proofs.Common.{List, subst, sym, ap, ◌∙◌, ◌≡◌}
use Rattle.pj_plan.specs.declared.node.PlanNode.{PlanNode}
use Rattle.pj_safety.specs.Certificates.{AreCertificates}
use Rattle.pj_core.specs.Plans.{RunPlan}
use Rattle.pj_hub.specs.Hubs.{hub_with}
use Rattle.pj_hub.specs.declared.made.MadeWith.{MadeWith}
use Rattle.pj_plan.specs.declared.node.Outline.{Outline}
use Rattle.pj_test_workers.specs.Auctions.{IsAuction, IsAuctionPlan}
use Rattle.pj_test_threads.proofs.Auctions.{if-ok}
use Rattle.pj_test_workers.proofs.Auctions.{auction-of}
use Rattle.pj_test_workers.proofs.auction.hub_of.Goals as goal

pub safe_core-requires-clause-certified : goal.safe_core-requires-clause-certified
safe_core-requires-clause-certified c = subst (λ (p : Outline). AreCertificates p.nodes) (sym c.in_ok-copy.ensures) c.requires.certs.1

pub returns-clause-auction : goal.returns-clause-auction
returns-clause-auction c =
    let core = c.in_ok-core.core in
    let fresh = c.in_ok-core.ensures in
    let nodes : core.plan.nodes ≡ c.args.plan.now.nodes = ap (λ (p : RunPlan). p.nodes) fresh.of_plan ∙ ap (λ (p : Outline). p.nodes) c.in_ok-copy.ensures in
    if-ok c.new.result _ _ c.new.ensures.hub (λ r is.
    subst (λ (made : MadeWith). IsAuction c.args.plan.now.nodes (hub_with made)) (sym is.1)
    (subst (λ (ns : List PlanNode). IsAuction ns (hub_with (record { nodes = core.plan.nodes; certs = core.plan.certs; trace = core.plan.trace; limit = core.limit }))) nodes
    (auction-of core.plan core.limit fresh.sound (subst IsAuctionPlan (sym nodes) c.requires.auction))))
