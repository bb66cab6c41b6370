use Rattle.std.proofs.Common.{◌≡◌, ◌++◌, ◌∷◌, [], List, Some, None, get_or, ap, sym, ◌∙◌, append-nil}
use Rattle.pj_value.specs.declared.values.Value.{Value}
use Rattle.pj_state.specs.Rising.{first_with}
use Rattle.pj_state.specs.States.{StateView, stored, ticket_of}
use Rattle.pj_state.proofs.Looking.{candidates-are, look-end, look-more, look-stop, looked_up}
use Rattle.pj_state.proofs.state.State.candidates.Goals as goal
use Rattle.pj_state.proofs.state.State.candidates.Goals.{in-None, in-Some+in_ok-share-in-Some+in_ok-push-in-Some}

pub returns-then-ticket-below : goal.returns-then-ticket-below
returns-then-ticket-below c =
    let tickets = c.tickets-ticket-items.result.now in
    let rows = c.args.self.now.rows in
    look-stop rows c.args.below c.loop-ticket.ticket-index tickets c.loop-ticket.found (looked_up rows c.args.below tickets) c.loop-ticket-test.true c.if-ticket-below.true c.loop-ticket.invariant
    ∙ (ap (looked_up rows c.args.below) c.tickets-ticket-items.ensures.tickets ∙ candidates-are rows c.args.below c.args.column c.args.value.now c.tickets-ticket-items.ensures.rising)

pub returns : goal.returns
returns c =
    let tickets = c.tickets-ticket-items.result.now in
    let rows = c.args.self.now.rows in
    look-end rows c.args.below c.loop-ticket.ticket-index tickets c.loop-ticket.found (looked_up rows c.args.below tickets) c.loop-ticket-test.false c.loop-ticket.invariant
    ∙ (ap (looked_up rows c.args.below) c.tickets-ticket-items.ensures.tickets ∙ candidates-are rows c.args.below c.args.column c.args.value.now c.tickets-ticket-items.ensures.rising)

pub loop-ticket-preserved : goal.loop-ticket-preserved
loop-ticket-preserved c =
    let tickets = c.tickets-ticket-items.result.now in
    let rows = c.args.self.now.rows in
    let i = c.loop-ticket.ticket-index in
    let store : c.self.inside.store ≡ rows = ap (λ (s : StateView). s.rows) c.self.view_is in
    elim c.match-get.branch [
      | in-None w ↦
          look-more rows c.args.below i tickets c.loop-ticket.found c.match-get.found (looked_up rows c.args.below tickets) None c.loop-ticket-test.true c.if-ticket-below.false
          (sym w.in-None.ensures.missing ∙ ap (first_with ticket_of (get_or tickets i 0)) store) (w.found-is ∙ sym (append-nil c.loop-ticket.found)) c.loop-ticket.invariant
      | in-Some+in_ok-share-in-Some+in_ok-push-in-Some w ↦
          look-more rows c.args.below i tickets c.loop-ticket.found c.match-get.found (looked_up rows c.args.below tickets) (Some (stored (get_or tickets i 0) w.in-Some.row.now)) c.loop-ticket-test.true c.if-ticket-below.false
          (sym w.in-Some.ensures.found ∙ ap (first_with ticket_of (get_or tickets i 0)) store)
          (w.found-is ∙ (w.in_ok-push-in-Some.ensures.ok ∙ ap (λ (row : List Value). c.loop-ticket.found ++ (get_or tickets i 0, row) ∷ []) w.in_ok-share-in-Some.ensures)) c.loop-ticket.invariant
    ]
