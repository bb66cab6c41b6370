use Rattle.std.proofs.Common.{◌∙◌, ◌++◌, ◌∷◌, [], List, ap, subst}
use Rattle.pj_events.specs.Join.{In, PunctAt}
use Rattle.pj_waiting.specs.Holding.{HeldPunctView, waits_at, arriving_punct}
use Rattle.pj_waiting.specs.Leaving.{puncts_but}
use Rattle.pj_waiting.proofs.Leaving.{last_taken}
use Rattle.pj_waiting.proofs.widening.keep_waiting.Goals as goal

pub push-requires : goal.push-requires
push-requires c = λ p h. c.requires.before p (subst (λ (ps : List PunctAt). In p ps) c.list.ensures.puncts h)

pub returns-in-Err-clause-err : goal.returns-in-Err-clause-err
returns-in-Err-clause-err c = (
  c.in-Err.ensures.err,
  c.remove.ensures.puncts ∙ ap (puncts_but c.args.arriving.ticket) (c.in_ok-push.ensures.ok ∙ ap (λ (h : HeldPunctView). c.list.new.self.puncts ++ waits_at c.args.arriving.ticket h ∷ []) c.in_ok-new.ensures) ∙ last_taken c.list.new.self.puncts (arriving_punct c.args.arriving) (λ p h. c.requires.before p (subst (λ (ps : List PunctAt). In p ps) c.list.ensures.puncts h)) ∙ c.list.ensures.puncts,
)
