use Rattle.std.proofs.Common.{sym}
use Rattle.pj_probe.proofs.Hopped.{more_with}
use Rattle.pj_probe.proofs.choosing.append_tickets.Goals as goal

pub returns-in_ok-append-in-Some : goal.returns-in_ok-append-in-Some
returns-in_ok-append-in-Some c =
    λ t. more_with c.args.state.now c.args.mine c.args.theirs c.args.row.now c.in-Some.value.now c.args.tickets.now c.tickets.result.now c.append.new.self c.requires.wide c.requires.indexed (sym c.in-Some.ensures) c.tickets.ensures.tickets c.in_ok-append-in-Some.ensures.ok
