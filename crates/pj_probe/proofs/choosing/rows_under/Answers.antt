use Rattle.std.proofs.Common.{get_or, refl}
use Rattle.pj_probe.proofs.Hopped.{under_more}
use Rattle.pj_probe.proofs.choosing.rows_under.Goals as goal

pub loop-ticket-preserved : goal.loop-ticket-preserved
loop-ticket-preserved c =
    under_more c.args.below c.args.state.now.rows c.args.tickets.now c.loop-ticket.ticket-index (get_or c.args.tickets.now c.loop-ticket.ticket-index 0) c.loop-ticket.found c.append_under.new.found c.loop-ticket-test.true refl c.loop-ticket.invariant c.in_ok-append_under.ensures
