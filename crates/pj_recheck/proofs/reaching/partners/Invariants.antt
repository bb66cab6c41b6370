use Rattle.std.proofs.Common.{take}
use Rattle.pj_recheck.specs.Watching.{AreWhole, HavePartners}
use Rattle.pj_recheck.proofs.reaching.partners.Given as goal

abbrev pub invariant-loop-ticket : goal.invariant-loop-ticket
invariant-loop-ticket l = HavePartners l.state.rows l.others.rows l.pair (take l.ticket-index l.tickets) l.found × AreWhole l.state.rows l.pair.mine l.seen l.found
