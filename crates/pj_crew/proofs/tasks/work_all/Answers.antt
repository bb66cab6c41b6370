use Rattle.std.proofs.Common.{sym, subst}
use denote.Param.Send.{sendable}
use Rattle.pj_hub.specs.Hubs.{hub_with}
use Rattle.pj_hub.specs.Seated.{hub_made, hub_name}
use Rattle.pj_crew.specs.Tasks.{HasWorked, IsReady}
use Rattle.pj_crew.proofs.Zips.{moved, zips}
use Rattle.pj_crew.proofs.tasks.work_all.Goals as goal

pub for_each_mut-requires-clause-accepts : goal.for_each_mut-requires-clause-accepts
for_each_mut-requires-clause-accepts g c κs within = λ i p lt e.
    (subst (λ task. IsReady (hub_name c.args.hub.now) (hub_with (hub_made c.args.hub.now)) task) (sym e) (c.requires i p.now lt), (search sendable depth 20, search sendable depth 20, search sendable depth 20, search sendable depth 20))

pub returns : goal.returns
returns g c = zips (HasWorked _) _ _ (search) (λ i d lt. let at = (c.for_each_mut.ensures i d lt).1 in moved (HasWorked _) _ _ _ _ at.call at.argument_is at.left)
