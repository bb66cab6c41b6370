use Rattle.std.proofs.Common.{◌∙◌, ap, get_or, refl, sym, arith}
use Rattle.std.proofs.lemmas.List.{take_all}
use Rattle.pj_state.specs.Rising.{without}
use Rattle.pj_state.specs.States.{StateView, state_of, ticket_of}
use Rattle.pj_join.specs.Sweeping.{rows_without}
use Rattle.pj_join.proofs.Looped.{without_more, without_none}
use Rattle.pj_join.proofs.settling.remove_all.Goals as goal

pub loop-ticket-preserved : goal.loop-ticket-preserved
loop-ticket-preserved c =
    c.remove.ensures.left
    ∙ ap (λ (s : StateView). state_of s.columns (without ticket_of (get_or c.args.gone.now c.loop-ticket.ticket-index 0) s.rows)) c.loop-ticket.invariant
    ∙ ap (state_of c.args.state.now.columns) (without_more c.args.gone.now c.loop-ticket.ticket-index (get_or c.args.gone.now c.loop-ticket.ticket-index 0) 0 c.args.state.now.rows c.loop-ticket-test.true refl)

pub returns : goal.returns
returns c = c.loop-ticket.invariant ∙ ap (λ ts. state_of c.args.state.now.columns (rows_without ts c.args.state.now.rows)) (take_all c.loop-ticket.ticket-index c.args.gone.now (omega (arith, c.loop-ticket-test.false)))

pub loop-ticket-init : goal.loop-ticket-init
loop-ticket-init c = sym (ap (state_of c.args.state.now.columns) (without_none c.args.state.now.rows))
