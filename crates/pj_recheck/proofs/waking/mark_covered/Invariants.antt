use Rattle.std.proofs.Common.{take}
use Rattle.pj_recheck.specs.Recheck.{RoutesLeave}
use Rattle.pj_recheck.specs.Watching.{AreFewer}
use Rattle.pj_recheck.proofs.waking.mark_covered.Given as goal

abbrev pub invariant-loop-route : goal.invariant-loop-route
invariant-loop-route l = AreFewer l.fn.due.items l.due.items × RoutesLeave l.row_states (take l.route-index l.routes) l.punct l.due.items
