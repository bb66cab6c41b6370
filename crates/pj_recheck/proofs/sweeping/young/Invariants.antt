use Rattle.std.proofs.Common.{◌≡◌, ◌<◌, ◌-◌, drop, length}
use Rattle.pj_value.specs.Lists.{In}
use Rattle.pj_state.specs.declared.shared.Stored.{Stored}
use Rattle.pj_recheck.proofs.sweeping.young.Given as goal

abbrev pub invariant-loop-back : goal.invariant-loop-back
invariant-loop-back l = (l.rows ≡ l.state.rows) × ((l.count ≡ length l.state.rows) × ((t : Stored) → In t (drop (l.count - l.back) l.state.rows) → t.ticket < l.low → In t.ticket l.list))
