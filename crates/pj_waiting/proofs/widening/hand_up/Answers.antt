use Rattle.std.proofs.Common.{◌∙◌, ◌++◌, ◌∷◌, [], List, ap}
use Rattle.pj_events.specs.Patterns.{Pattern}
use Rattle.pj_waiting.specs.Letting.{widened_among}
use Rattle.pj_waiting.proofs.widening.hand_up.Goals as goal

pub returns-in-Ok-clause-out : goal.returns-in-Ok-clause-out
returns-in-Ok-clause-out c =
    c.in_ok-push.ensures.ok ∙ ap (λ (p : List Pattern). c.args.out.now ++ p ∷ [])
    (c.in_ok-widened.ensures c.args.arriving.ticket ∙ ap (λ (ps : List Pattern). widened_among c.args.schemas.now (record { ticket = c.args.arriving.ticket; input = c.args.arriving.input; patterns = ps })) c.as_slice.ensures)
