use Rattle.std.proofs.Common.{◌≡◌, take}
use Rattle.pj_state.specs.States.{state_of}
use Rattle.pj_join.specs.Sweeping.{rows_without}
use Rattle.pj_join.proofs.settling.remove_all.Given as goal

abbrev pub invariant-loop-ticket : goal.invariant-loop-ticket
invariant-loop-ticket l = l.state ≡ state_of l.fn.state.columns (rows_without (take l.ticket-index l.gone) l.fn.state.rows)
