use Rattle.std.proofs.Common.{◌≡◌, filter, take}
use Rattle.pj_state.specs.States.{tickets_of}
use Rattle.pj_rows.specs.Finding.{has_match}
use Rattle.pj_recheck.proofs.due_rechecks.walked_tickets.Given as goal

abbrev pub invariant-loop-at : goal.invariant-loop-at
invariant-loop-at l = (l.rows ≡ l.state.rows) × (l.tickets ≡ tickets_of (filter (has_match l.column l.pattern) (take l.at l.state.rows)))
