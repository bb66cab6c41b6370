use Rattle.std.proofs.Common.{subst}
use Rattle.pj_state.specs.Rising.{IsRising}
use Rattle.pj_waiting.specs.Holding.{WaitingView, held_at}
use Rattle.pj_waiting.proofs.Listed.{entries_rise}
use Rattle.pj_waiting.proofs.waiting.Waiting.len.Goals as goal

pub returns-clause-rising : goal.returns-clause-rising
returns-clause-rising c = subst (λ (w : WaitingView). IsRising held_at w.puncts) c.self.view_is (entries_rise c.self.inside.puncts.entries c.len.ensures.ordered)
