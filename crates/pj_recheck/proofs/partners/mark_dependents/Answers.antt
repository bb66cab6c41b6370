use Rattle.pj_recheck.proofs.Rechecked.{back_next, back_whole, fewer_more, item_in}
use Rattle.pj_recheck.proofs.partners.mark_dependents.Goals as goal

pub mark_owner-requires-clause-fits : goal.mark_owner-requires-clause-fits
mark_owner-requires-clause-fits c = c.requires.fit c.back-item.result (item_in c.args.backs.now c.loop-back.back-index c.back-item.result c.loop-back-test.true c.back-item.is)

pub loop-back-preserved : goal.loop-back-preserved
loop-back-preserved c = (
  fewer_more c.args.due.now.items c.loop-back.due.items c.mark_owner.new.due.items c.loop-back.invariant.0 c.mark_owner.ensures.fewer,
  back_next c.args.row_states.now c.args.gone.now c.args.backs.now c.loop-back.due.items c.mark_owner.new.due.items c.loop-back.back-index c.back-item.result c.loop-back-test.true c.back-item.is c.mark_owner.ensures.fewer c.loop-back.invariant.1 c.mark_owner.ensures.aside,
)

pub returns-clause-aside : goal.returns-clause-aside
returns-clause-aside c = back_whole c.args.row_states.now c.args.gone.now c.args.backs.now c.loop-back.due.items c.loop-back.back-index c.loop-back-test.false c.loop-back.invariant.1
