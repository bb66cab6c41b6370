use Rattle.std.proofs.Common.{[], ◌∷◌}
use Rattle.pj_probe.proofs.Hopped.{linked_anyhow, linked_one}
use Rattle.pj_probe.proofs.choosing.linked_by_one.Goals as goal

pub returns-in-Some : goal.returns-in-Some
returns-in-Some c = λ ticket.
    linked_one c.args.state.now c.args.mine c.args.theirs c.args.below ticket c.args.row.now c.in-Some.value.now c.tickets.result.now c.rows_under.result c.rows_under.ensures.rising c.requires.wide c.requires.indexed
    c.in-Some.ensures c.tickets.ensures.tickets c.rows_under.ensures.found

pub returns-in-None : goal.returns-in-None
returns-in-None c = λ ticket. linked_anyhow c.args.state.now c.args.mine c.args.theirs c.args.below ((ticket, c.args.row.now) ∷ []) c.all_below.result c.all_below.ensures
