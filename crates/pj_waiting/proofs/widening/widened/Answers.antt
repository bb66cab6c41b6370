use Rattle.std.proofs.Common.{◌∙◌, ◌++◌, ap, List, sum}
use Rattle.pj_events.specs.Patterns.{Pattern, all_wild}
use Rattle.pj_shape.specs.Sound.{arities_of}
use Rattle.pj_waiting.proofs.SortedOut.{widened_is}
use Rattle.pj_waiting.proofs.widening.widened.Goals as goal

pub returns : goal.returns
returns c = λ ticket.
    widened_is c.args.schemas.now c.split_at.result.0.now c.split_at.result.1.now c.split_at-2.result.1.now (record { ticket = ticket; input = c.args.input; patterns = c.args.own.now }) c.append_wilds.new.patterns c.append_copies.new.out c.of.result
    c.split_at.ensures.front c.split_at.ensures.back c.split_at-2.ensures.back
    (c.in_ok-append_wilds.ensures ∙ ap (λ (ps : List Pattern). ps ++ all_wild (sum (arities_of c.split_at.result.0.now))) c.in_ok-patterns.ensures) c.in_ok-append_copies.ensures.ok
    (c.of.ensures ∙ c.in_ok-append_wilds-2.ensures)
