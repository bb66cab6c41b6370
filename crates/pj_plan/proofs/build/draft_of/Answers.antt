use Rattle.std.proofs.Common.{rules, drop}
use Rattle.pj_plan.proofs.Building.{building_small, building_on}
use Rattle.pj_plan.proofs.build.draft_of.Goals as goal

pub stated_behind-requires : goal.stated_behind-requires
stated_behind-requires c = record { small = building_small c.args.statements.now c.loop-stated.draft (drop c.loop-stated.stated-index c.args.statements.now) c.loop-stated.invariant }

pub loop-stated-preserved : goal.loop-stated-preserved
loop-stated-preserved c =
    building_on c.args.statements.now c.loop-stated.stated-index c.stated-item.result c.loop-stated.draft c.in_ok-draft.draft c.loop-stated.invariant
    (search rules) (search rules) (search rules) (search rules)
