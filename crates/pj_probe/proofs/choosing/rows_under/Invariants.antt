use Rattle.std.proofs.Common.{◌≡◌, take}
use Rattle.pj_state.specs.States.{pairs}
use Rattle.pj_probe.specs.Hops.{all_under}
use Rattle.pj_probe.proofs.choosing.rows_under.Given as goal

abbrev pub invariant-loop-ticket : goal.invariant-loop-ticket
invariant-loop-ticket l = l.found ≡ pairs (all_under l.below l.state.rows (take l.ticket-index l.tickets))
