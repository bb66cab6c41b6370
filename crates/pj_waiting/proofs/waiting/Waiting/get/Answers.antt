use Rattle.std.proofs.Common.{◌≡◌, IfNone, IfSome, subst}
use Rattle.pj_events.specs.Join.{In, PunctAt}
use Rattle.pj_waiting.specs.Holding.{WaitingView, waits_at}
use Rattle.pj_waiting.proofs.Listed.{found_punct, no_punct}
use Rattle.pj_waiting.proofs.waiting.Waiting.get.Goals as goal

pub returns-clause-found : goal.returns-clause-found
returns-clause-found c =
    subst (λ (w : WaitingView). IfSome c.get.result (λ punct. In (waits_at c.args.ticket punct.now) w.puncts)) c.self.view_is (found_punct c.args.ticket c.self.inside.puncts.entries c.get.result c.get.ensures.value)

pub returns-clause-missing : goal.returns-clause-missing
returns-clause-missing c =
    subst (λ (w : WaitingView). IfNone c.get.result ((p : PunctAt) → In p w.puncts → p.ticket ≡ c.args.ticket → ⊥)) c.self.view_is (no_punct c.args.ticket c.self.inside.puncts.entries c.get.result c.get.ensures.value)
