use Rattle.std.proofs.Common.{refl}
use Rattle.pj_recheck.specs.Watching.{none_due}
use Rattle.pj_join.proofs.Watched.{watches_more}
use Rattle.pj_join.proofs.starting.empty_watches.Goals as goal

pub loop-input-preserved : goal.loop-input-preserved
loop-input-preserved c = watches_more c.loop-input.due.items c.push.new.self.items c.loop-input._input c.loop-input.invariant.0 c.loop-input.invariant.1 none_due refl (rw (← c.new.ensures) c.in_ok-push.ensures.items)
