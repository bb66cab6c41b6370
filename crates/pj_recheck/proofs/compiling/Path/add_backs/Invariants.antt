use Rattle.pj_events.specs.Join.{In}
use Rattle.pj_recheck.specs.declared.routes.BackRoute.{BackRoute}
use Rattle.pj_recheck.specs.Recheck.{BacksFit, HaveBacks}
use Rattle.pj_recheck.specs.Watching.{asker}
use Rattle.pj_recheck.proofs.compiling.Path.add_backs.Given as goal

abbrev pub invariant-loop-at : goal.invariant-loop-at
invariant-loop-at l = HaveBacks (asker l.self) l.at l.other l.backs × (BacksFit l.self.row_states l.fn.backs → BacksFit l.self.row_states l.backs) × ((back : BackRoute) → In back l.fn.backs → In back l.backs)
