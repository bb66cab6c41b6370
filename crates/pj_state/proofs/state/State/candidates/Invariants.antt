use Rattle.std.proofs.Common.{◌≡◌, ◌++◌, drop}
use Rattle.pj_state.proofs.Looking.{looked_up}
use Rattle.pj_state.proofs.state.State.candidates.Given as goal

abbrev pub invariant-loop-ticket : goal.invariant-loop-ticket
invariant-loop-ticket l = l.found ++ looked_up l.self.rows l.below (drop l.ticket-index l.ticket-items) ≡ looked_up l.self.rows l.below l.ticket-items
