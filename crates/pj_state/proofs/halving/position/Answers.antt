use Rattle.std.proofs.Common.{◌-◌, ◌∙◌, arith}
use Rattle.pj_state.proofs.Between.{none_in_front, none_there}
use Rattle.pj_state.proofs.halving.position.Goals as goal

pub returns-then-behind-eq0-clause-missing : goal.returns-then-behind-eq0-clause-missing
returns-then-behind-eq0-clause-missing g c = λ rising.
    none_in_front g.T.Ticketed.number c.args.ticket c.args.items.now c.split_place-behind.result c.split_place-behind.ensures c.if-behind-eq0.true rising

pub returns-then-ticket-clause-missing : goal.returns-then-ticket-clause-missing
returns-then-ticket-clause-missing g c = λ rising.
    none_there g.T.Ticketed.number c.args.ticket c.args.items.now c.split_place-behind.result (c.split_place-behind.result - 1) c.index-items-behind.result
    c.split_place-behind.ensures (omega arith) c.index-items-behind.is (λ e. c.if-ticket.true (c.ticket.ensures ∙ e)) rising
