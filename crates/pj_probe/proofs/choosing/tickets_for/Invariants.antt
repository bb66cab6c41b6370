use Rattle.std.proofs.Common.{take}
use Rattle.pj_probe.specs.Hops.{HaveTickets}
use Rattle.pj_probe.proofs.choosing.tickets_for.Given as goal

abbrev pub invariant-loop-at : goal.invariant-loop-at
invariant-loop-at l = HaveTickets l.state.rows l.mine l.theirs (take l.at l.others) l.tickets
