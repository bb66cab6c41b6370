use Rattle.std.proofs.Common.{◌<◌, ◌∙◌, ◌++◌, ◌∷◌, [], ap, subst, sym}
use Rattle.pj_events.specs.Join.{In, PunctAt}
use Rattle.pj_waiting.specs.Holding.{WaitingView, waiting_in, waits_at}
use Rattle.pj_waiting.proofs.Listed.{put_last}
use Rattle.pj_waiting.proofs.waiting.Waiting.push.Goals as goal

pub returns-clause-ok : goal.returns-clause-ok
returns-clause-ok c =
    ap waiting_in c.in_ok-insert.ensures.entries
    ∙ put_last c.args.ticket c.args.punct c.self.inside.puncts.entries (subst (λ (w : WaitingView). (p : PunctAt) → In p w.puncts → p.ticket < c.args.ticket) (sym c.self.view_is) c.requires)
    ∙ ap (λ (w : WaitingView). w.puncts ++ waits_at c.args.ticket c.args.punct ∷ []) c.self.view_is
