use Rattle.std.proofs.Common.{◌≡◌, ◌*◌, ◌-◌, length, map, IsTrue}
use Rattle.pj_probe.specs.Visits.{Grows}
use Rattle.pj_probe.specs.Walking.{walked_upto}
use Rattle.pj_probe.proofs.walk.+walking.Given as goal

abbrev pub decreases-walk : goal.decreases-walk
decreases-walk g l = 2 * (length l.sides.now - length l.rows.now.items)

abbrev pub decreases-walk_on : goal.decreases-walk_on
decreases-walk_on g l = 2 * (length l.sides.now - length l.rows.now.items) - 1

abbrev pub invariant-walk-loop-place : goal.invariant-walk-loop-place
invariant-walk-loop-place g l =
    (l.rows.items ≡ l.fn.rows.items)
    × (IsTrue (g.V.Visit.told l.visit) → IsTrue (g.V.Visit.told l.fn.visit))
    × Grows (g.V.Visit.told l.visit) (g.V.Visit.list l.fn.visit) (g.V.Visit.list l.visit) (walked_upto l.checks (map g.S.Candidates.pairs l.sides) l.fn.rows.items l.place)
