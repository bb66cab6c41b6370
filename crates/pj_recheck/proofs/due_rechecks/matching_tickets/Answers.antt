use Rattle.std.proofs.Common.{ℕ, List, Option, IfSome, subst}
use Rattle.pj_rows.specs.Ranges.{HasAmong, HoldAll}
use Rattle.pj_rows.proofs.Ranged.{held_among}
use Rattle.pj_recheck.proofs.due_rechecks.matching_tickets.Goals as goal

pub returns-in-Some-2 : goal.returns-in-Some-2
returns-in-Some-2 c =
    held_among c.args.column c.args.pattern.now c.in-Some.numbers c.args.state.now.rows c.in-Some-2.tickets c.in-Some.ensures
    (subst (λ (told : Option (List ℕ)). IfSome told (HoldAll (HasAmong c.args.column c.in-Some.numbers) c.args.state.now.rows)) c.in-Some-2.is c.in_ok-tickets_among-in-Some.ensures)
