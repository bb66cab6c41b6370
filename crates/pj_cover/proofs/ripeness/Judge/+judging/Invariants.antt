use Rattle.std.proofs.Common.{◌≡◌, length, take, drop, map, ◌*◌, ◌+◌, ◌-◌}
use Rattle.pj_cover.specs.Asking.{AreDone, AreDoneUnder, entries, known_of, tuple_of}
use Rattle.pj_cover.specs.Routes.{steps_in}
use Rattle.pj_cover.proofs.ripeness.Judge.+judging.Given as goal

abbrev pub decreases-seek : goal.decreases-seek
decreases-seek g l = 5 * (length l.self.now.route.now.steps - l.at)

abbrev pub decreases-seek_through : goal.decreases-seek_through
decreases-seek_through g l = 5 * (length l.self.now.route.now.steps - (l.at + 1)) + 4

abbrev pub decreases-seek_each : goal.decreases-seek_each
decreases-seek_each g l = 5 * (length l.self.now.route.now.steps - (l.at + 1)) + 3

abbrev pub decreases-seek_among : goal.decreases-seek_among
decreases-seek_among g l = 5 * (length l.self.now.route.now.steps - (l.at + 1)) + 3

abbrev pub decreases-seek_under : goal.decreases-seek_under
decreases-seek_under g l = 5 * (length l.self.now.route.now.steps - (l.at + 1)) + 2

abbrev pub decreases-seek_with : goal.decreases-seek_with
decreases-seek_with g l = 5 * (length l.self.now.route.now.steps - (l.at + 1)) + 1

abbrev pub invariant-seek_each-loop-n : goal.invariant-seek_each-loop-n
invariant-seek_each-loop-n g l =
    (l.parts.items ≡ l.fn.parts.items)
    × AreDone (known_of l.self.spec.now (g.R.StoredRows.rows l.self.rows.now) l.self.punct_stores.now l.self.low) (entries l.self.schemes.now (drop l.at (steps_in l.self.route.now))) l.fn.parts.items (take l.n (map (tuple_of l.step.step.input) (g.R.StoredRows.rows l.self.rows.now l.step.step.input)))

abbrev pub invariant-seek_among-loop-ticket : goal.invariant-seek_among-loop-ticket
invariant-seek_among-loop-ticket g l =
    (l.parts.items ≡ l.fn.parts.items)
    × AreDoneUnder (known_of l.self.spec.now (g.R.StoredRows.rows l.self.rows.now) l.self.punct_stores.now l.self.low) (entries l.self.schemes.now (drop l.at (steps_in l.self.route.now))) l.fn.parts.items (map (tuple_of l.step.step.input) (g.R.StoredRows.rows l.self.rows.now l.step.step.input)) (take l.ticket-index l.tickets)
