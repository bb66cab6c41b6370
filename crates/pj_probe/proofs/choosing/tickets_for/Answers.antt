use Rattle.std.proofs.Common.{List, get_or, refl, subst}
use Rattle.pj_events.specs.Join.{Value, value_at}
use Rattle.pj_probe.specs.Hops.{AreMore}
use Rattle.pj_probe.proofs.Hopped.{tickets_more}
use Rattle.pj_probe.proofs.choosing.tickets_for.Goals as goal

pub loop-at-preserved : goal.loop-at-preserved
loop-at-preserved c =
    tickets_more c.args.state.now.rows c.args.mine c.args.theirs c.args.others.now c.loop-at.at c.index-others-at.result (get_or c.args.others.now c.loop-at.at c.index-others-at.result) c.loop-at.tickets c.append_tickets.new.tickets c.loop-at-test.true refl c.loop-at.invariant
    (subst (λ (row : List Value). AreMore c.args.state.now.rows c.args.mine (value_at row c.args.theirs) c.loop-at.tickets c.append_tickets.new.tickets) c.row.ensures (c.in_ok-append_tickets.ensures c.if-not-branch.false))
