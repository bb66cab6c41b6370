use Rattle.std.proofs.Common.{List, [], refl, ap, sym, ◌∙◌}
use Rattle.std.specs.List.{slice_get}
use Rattle.pj_state.specs.declared.shared.Stored.{Stored}
use Rattle.pj_state.specs.States.{stored, ticket_of}
use Rattle.pj_rows.specs.Finding.{has_match}
use Rattle.pj_recheck.proofs.Looped.{picked_more}
use Rattle.pj_recheck.proofs.due_rechecks.walked_tickets.Goals as goal

pub loop-at-preserved : goal.loop-at-preserved
loop-at-preserved c = (
  c.nth-ticket.ensures.same ∙ c.loop-at.invariant.0,
  picked_more (has_match c.args.column c.args.pattern.now) ticket_of c.args.state.now.rows c.loop-at.at (stored c.nth-ticket.result.0 c.nth-ticket.result.1.now) (has_match c.args.column c.args.pattern.now (stored c.nth-ticket.result.0 c.nth-ticket.result.1.now)) [] c.loop-at.tickets c.mark_match.new.marked (ap (λ (rows : List Stored). slice_get rows c.loop-at.at) (sym c.loop-at.invariant.0) ∙ c.nth-ticket.ensures.row) refl c.loop-at.invariant.1 c.in_ok-mark_match.ensures.ok,
)
