use Rattle.std.proofs.Common.{◌≡◌, take}
use Rattle.pj_state.specs.States.{pairs, rows_below}
use Rattle.pj_state.specs.Stores.{flat, rows_at}
use Rattle.pj_state.proofs.store.Store.below.Given as goal

abbrev pub invariant-loop-block : goal.invariant-loop-block
invariant-loop-block l = l.found ≡ pairs (rows_below l.ticket (rows_at l.self-inside.slab.slots (flat (take l.block-index l.block-items))))
