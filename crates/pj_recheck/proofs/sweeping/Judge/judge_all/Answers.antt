use Rattle.std.proofs.Common.{refl, get_or}
use Rattle.pj_recheck.proofs.Picked.{judged_more, rows_more}
use Rattle.pj_recheck.proofs.sweeping.Judge.judge_all.Goals as goal

pub loop-ticket-preserved : goal.loop-ticket-preserved
loop-ticket-preserved c = (
  judged_more c.args.self.now c.args.tickets.now c.loop-ticket.ticket-index (get_or c.args.tickets.now c.loop-ticket.ticket-index 0) c.loop-ticket.judged c.judge_one.new.judged c.loop-ticket-test.true refl c.loop-ticket.invariant.0 c.in_ok-judge_one.ensures.ok,
  rows_more c.args.self.now c.args.tickets.now c.loop-ticket.ticket-index (get_or c.args.tickets.now c.loop-ticket.ticket-index 0) c.args.removed.now c.loop-ticket.removed c.judge_one.new.removed c.loop-ticket-test.true refl c.loop-ticket.invariant.1 c.in_ok-judge_one.ensures.removed,
)
