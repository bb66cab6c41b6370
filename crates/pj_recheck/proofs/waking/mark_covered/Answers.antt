use Rattle.pj_recheck.proofs.Rechecked.{fewer_more, item_in, leave_all, leave_next}
use Rattle.pj_recheck.proofs.waking.mark_covered.Goals as goal

pub mark_owner-requires-clause-fits : goal.mark_owner-requires-clause-fits
mark_owner-requires-clause-fits c = c.requires.fit c.route-item.result (item_in c.args.routes.now c.loop-route.route-index c.route-item.result c.loop-route-test.true c.route-item.is)

pub loop-route-preserved : goal.loop-route-preserved
loop-route-preserved c = (
  fewer_more c.args.due.now.items c.loop-route.due.items c.mark_owner.new.due.items c.loop-route.invariant.0 c.mark_owner.ensures.fewer,
  leave_next c.args.row_states.now c.args.punct.now c.args.routes.now c.loop-route.due.items c.mark_owner.new.due.items c.loop-route.route-index c.route-item.result c.loop-route-test.true c.route-item.is c.mark_owner.ensures.fewer c.loop-route.invariant.1 c.in_ok-mark_owner.ensures.left,
)

pub returns-clause-left : goal.returns-clause-left
returns-clause-left c = leave_all c.args.row_states.now c.args.punct.now c.args.routes.now c.loop-route.due.items c.loop-route.route-index c.loop-route-test.false c.loop-route.invariant.1

pub returns-in_err-mark_owner-clause-fewer : goal.returns-in_err-mark_owner-clause-fewer
returns-in_err-mark_owner-clause-fewer c = fewer_more c.args.due.now.items c.loop-route.due.items c.mark_owner.new.due.items c.loop-route.invariant.0 c.mark_owner.ensures.fewer
