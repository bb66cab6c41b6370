use Rattle.std.proofs.Common.{◌≡◌, ◌++◌, take}
use Rattle.pj_state.specs.States.{pairs, rows_below}
use Rattle.pj_state.specs.Stores.{rows_at}
use Rattle.pj_state.proofs.store.append_below.Given as goal

abbrev pub invariant-loop-at : goal.invariant-loop-at
invariant-loop-at l = l.found ≡ l.fn.found ++ pairs (rows_below l.ticket (rows_at l.slab.slots (take l.at l.block)))
