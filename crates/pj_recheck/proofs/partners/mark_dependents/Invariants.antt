use Rattle.std.proofs.Common.{take}
use Rattle.pj_recheck.specs.Recheck.{BacksLeave}
use Rattle.pj_recheck.specs.Watching.{AreFewer}
use Rattle.pj_recheck.proofs.partners.mark_dependents.Given as goal

abbrev pub invariant-loop-back : goal.invariant-loop-back
invariant-loop-back l = AreFewer l.fn.due.items l.due.items × BacksLeave l.row_states (take l.back-index l.backs) l.gone l.due.items
