use Rattle.std.proofs.Common.{◌≡◌, ◌∙◌, ◌++◌, ◌∷◌, [], List, Some, ap, subst}
use Rattle.std.specs.List.{slice_get}
use Rattle.pj_events.specs.Join.{Value}
use Rattle.pj_state.specs.declared.shared.Stored.{Stored}
use Rattle.pj_state.specs.States.{stored}
use Rattle.pj_probe.proofs.Hopped.{older_more, older_stop}
use Rattle.pj_probe.proofs.choosing.all_below.Goals as goal

pub returns-then-ticket-below : goal.returns-then-ticket-below
returns-then-ticket-below c =
    let s : Stored = stored c.nth-ticket.result.0 c.nth-ticket.result.1.now in
    older_stop c.args.below c.args.state.now.rows c.loop-at.at s c.loop-at.found c.len.ensures.rising (subst (λ (rows : List Stored). slice_get rows c.loop-at.at ≡ Some s) c.loop-at.invariant.0 c.nth-ticket.ensures.row) c.if-ticket-below.true c.loop-at.invariant.1

pub loop-at-preserved : goal.loop-at-preserved
loop-at-preserved c =
    let s : Stored = stored c.nth-ticket.result.0 c.nth-ticket.result.1.now in (
      c.nth-ticket.ensures.same ∙ c.loop-at.invariant.0,
      older_more c.args.below c.args.state.now.rows c.loop-at.at s c.loop-at.found c.push.new.self (subst (λ (rows : List Stored). slice_get rows c.loop-at.at ≡ Some s) c.loop-at.invariant.0 c.nth-ticket.ensures.row) c.if-ticket-below.false c.loop-at.invariant.1
          (c.in_ok-push.ensures.ok ∙ ap (λ (row : List Value). c.loop-at.found ++ (c.nth-ticket.result.0, row) ∷ []) c.of.ensures),
    )
