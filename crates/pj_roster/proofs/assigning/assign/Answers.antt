use Rattle.std.proofs.Common.{arith}
use Rattle.pj_roster.proofs.Shares.{shares-few}
use Rattle.pj_roster.proofs.Assigned.{crew-assigned, crewed, fed-long, probed-long, swept-long}
use Rattle.pj_roster.proofs.assigning.assign.Goals as goal

pub add_probers-requires : goal.add_probers-requires
add_probers-requires g c =
    let fed = fed-long c.args.keep c.args.feeds.items c.in-Ok-with_capacity.duties.items c.add_feeders.new.duties.items c.in-Ok-with_capacity.ensures.items c.add_feeders.ensures.items in
    grind (arith, fed, c.add_feeders.ensures.room, c.in-Ok-with_capacity.ensures.exact, c.len.ensures, c.len-2.ensures, c.args.feeds.ok.0)

pub add_sweepers-requires-clause-room : goal.add_sweepers-requires-clause-room
add_sweepers-requires-clause-room g c =
    let fed = fed-long c.args.keep c.args.feeds.items c.in-Ok-with_capacity.duties.items c.add_feeders.new.duties.items c.in-Ok-with_capacity.ensures.items c.add_feeders.ensures.items in
    let probed = probed-long c.args.workers c.add_feeders.new.duties.items c.add_probers.new.duties.items c.add_probers.ensures.items in
    grind (arith, fed, probed, c.add_probers.ensures.room, c.add_feeders.ensures.room, c.in-Ok-with_capacity.ensures.exact, c.len.ensures, c.len-2.ensures, c.args.feeds.ok.0, c.in-Ok.shares.ok.0)

pub add_sweepers-requires-clause-few : goal.add_sweepers-requires-clause-few
add_sweepers-requires-clause-few g c = omega (arith, c.requires.workers.1, shares-few c.args.plan.now.nodes c.args.workers c.in-Ok.shares.items c.in-Ok.ensures)

pub returns-clause-all : goal.returns-clause-all
returns-clause-all g c =
    crewed c.args.plan.now.nodes c.args.keep c.args.feeds.items c.args.workers c.in-Ok.shares.items c.in-Ok-with_capacity.duties.items c.add_feeders.new.duties.items c.add_probers.new.duties.items c.add_sweepers.new.duties.items
    c.in-Ok-with_capacity.ensures.items c.add_feeders.ensures.items c.add_probers.ensures.items c.add_sweepers.ensures.items c.in-Ok.ensures

pub returns-clause-assigned : goal.returns-clause-assigned
returns-clause-assigned g c =
    crew-assigned c.args.plan.now.nodes c.args.keep c.args.feeds.items c.args.workers c.add_sweepers.new.duties.items
    (crewed c.args.plan.now.nodes c.args.keep c.args.feeds.items c.args.workers c.in-Ok.shares.items c.in-Ok-with_capacity.duties.items c.add_feeders.new.duties.items c.add_probers.new.duties.items c.add_sweepers.new.duties.items
    c.in-Ok-with_capacity.ensures.items c.add_feeders.ensures.items c.add_probers.ensures.items c.add_sweepers.ensures.items c.in-Ok.ensures)

pub returns-clause-few : goal.returns-clause-few
returns-clause-few g c =
    let fed = fed-long c.args.keep c.args.feeds.items c.in-Ok-with_capacity.duties.items c.add_feeders.new.duties.items c.in-Ok-with_capacity.ensures.items c.add_feeders.ensures.items in
    let probed = probed-long c.args.workers c.add_feeders.new.duties.items c.add_probers.new.duties.items c.add_probers.ensures.items in
    let swept = swept-long c.in-Ok.shares.items c.add_probers.new.duties.items c.add_sweepers.new.duties.items c.add_sweepers.ensures.items in
    omega (arith, fed, probed, swept, c.requires.few, c.requires.workers.1, shares-few c.args.plan.now.nodes c.args.workers c.in-Ok.shares.items c.in-Ok.ensures)
