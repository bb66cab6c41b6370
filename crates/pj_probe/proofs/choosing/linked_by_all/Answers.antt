use Rattle.std.proofs.Common.{◌≡◌, ℕ, List, Option, subst}
use Rattle.std.specs.Prelude.{IfOk, IfSome}
use Rattle.pj_state.specs.States.{pairs}
use Rattle.pj_probe.specs.Hops.{HaveTickets, all_under}
use Rattle.pj_probe.proofs.Hopped.{linked_all, linked_anyhow}
use Rattle.pj_probe.proofs.choosing.linked_by_all.Goals as goal

pub returns-in-Some : goal.returns-in-Some
returns-in-Some c =
    linked_all c.args.state.now c.args.mine c.args.theirs c.args.below c.args.others.now c.in-Some.tickets c.in_order.result.items c.rows_under.result c.rows_under.ensures.rising c.in_order.ensures.rising c.in_order.ensures.all
    (subst (λ (o : Option (List ℕ)). IfSome o (HaveTickets c.args.state.now.rows c.args.mine c.args.theirs c.args.others.now)) c.in-Some.is c.in_ok-tickets_for.ensures)
    (subst (λ (ns : List ℕ). IfOk c.rows_under.result (λ found. found ≡ pairs (all_under c.args.below c.args.state.now.rows ns))) c.as_slice.ensures.value c.rows_under.ensures.found)

pub returns-in-None : goal.returns-in-None
returns-in-None c = linked_anyhow c.args.state.now c.args.mine c.args.theirs c.args.below c.args.others.now c.all_below.result c.all_below.ensures
