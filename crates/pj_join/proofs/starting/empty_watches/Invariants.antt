use Rattle.std.proofs.Common.{◌≡◌, ℕ, length}
use Rattle.pj_recheck.specs.Watching.{watches_at}
use Rattle.pj_join.proofs.starting.empty_watches.Given as goal

abbrev pub invariant-loop-input : goal.invariant-loop-input
invariant-loop-input l = (length l.due.items ≡ l._input) × ((input : ℕ) → (watches_at l.due.items input).from ≡ 0)
