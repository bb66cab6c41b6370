use Rattle.std.proofs.Common.{◌≡◌, ◌<◌, false, arith, drop}
use Rattle.std.specs.Arc.{arc_value}
use Rattle.pj_events.specs.Join.{has, inputs}
use Rattle.pj_recheck.specs.Judging.{join_data}
use Rattle.pj_join.specs.Joins.{IsTaken}
use Rattle.pj_events.specs.KeptState.{without}
use Rattle.pj_join.specs.Insides.{lowest, tickets}
use Rattle.pj_join.specs.Sides.{log_of, puncts_of}
use Rattle.pj_rows.specs.Tuples.{tuples_in}
use Rattle.pj_join.proofs.Orders.{seen-give}
use Rattle.pj_join.proofs.Standing.{stands-give}
use Rattle.pj_join.proofs.Calling.{may-forget, several}
use Rattle.pj_join.proofs.Kept.{join-gives}
use Rattle.pj_join.proofs.Lowest.{lowest_give}
use Rattle.pj_join.proofs.Watched.{watched_rises}
use Rattle.pj_join.proofs.join.Join.give.Goals as goal

pub forget-requires : goal.forget-requires
forget-requires c = may-forget (join_data (arc_value c.self.inside.spec) c.self.inside.schemes c.self.inside.certs) c.self.inside.limit c.self.inside.next c.self.inside.done (log_of c.self.inside.row_states.items) (tuples_in 0 c.self.inside.row_states.items) c.self.inside.taken.items c.self.invariant.0.ordered

pub invariant_of-self : goal.invariant_of-self
invariant_of-self c =
    let r : IsTaken c.args.self.now.kept c.args.probe.ticket = c.requires in
    let f : has (tickets (drop c.self.inside.done (log_of c.self.inside.row_states.items))) c.args.probe.ticket ≡ false = (rw (← c.self.view_is) at r).1 in (
      rw (c.forget.ensures, c.ticket.ensures) (join-gives (join_data (arc_value c.self.inside.spec) c.self.inside.schemes c.self.inside.certs) c.self.inside.limit c.self.inside.next c.self.inside.done c.self.inside.row_states.items c.self.inside.punct_stores.items c.self.inside.pending c.self.inside.taken.items c.self.invariant.0 c.args.probe.ticket f),
      rw (c.forget.ensures, c.ticket.ensures) (watched_rises (join_data (arc_value c.self.inside.spec) c.self.inside.schemes c.self.inside.certs) c.self.inside.next (lowest c.self.inside.next c.self.inside.done (log_of c.self.inside.row_states.items) c.self.inside.taken.items) (lowest c.self.inside.next c.self.inside.done (log_of c.self.inside.row_states.items) (without c.self.inside.taken.items c.args.probe.ticket)) (log_of c.self.inside.row_states.items) (puncts_of c.self.inside.punct_stores.items) c.self.inside.due.items (lowest_give c.self.inside.next c.self.inside.done (log_of c.self.inside.row_states.items) c.self.inside.taken.items c.args.probe.ticket) c.self.invariant.1),
      c.self.invariant.2,
      c.self.invariant.3,
      c.self.invariant.4,
      c.self.invariant.5,
    )

pub returns-clause-gives : goal.returns-clause-gives
returns-clause-gives c =
    let r : IsTaken c.args.self.now.kept c.args.probe.ticket = c.requires in
    let f : has (tickets (drop c.self.inside.done (log_of c.self.inside.row_states.items))) c.args.probe.ticket ≡ false = (rw (← c.self.view_is) at r).1 in
    rw (← c.self.view_is, c.forget.ensures, c.ticket.ensures) (seen-give c.self.inside.node (join_data (arc_value c.self.inside.spec) c.self.inside.schemes c.self.inside.certs) c.self.inside.limit c.self.inside.next c.self.inside.done (log_of c.self.inside.row_states.items) (puncts_of c.self.inside.punct_stores.items) c.self.inside.waiting.puncts c.self.inside.taken.items c.args.probe.ticket f)

pub returns-clause-stands : goal.returns-clause-stands
returns-clause-stands c =
    let few : 0 < inputs c.args.self.now.spec = rw (← c.self.view_is) (omega (arith, several (join_data (arc_value c.self.inside.spec) c.self.inside.schemes c.self.inside.certs) c.self.inside.limit c.self.inside.next c.self.inside.done (log_of c.self.inside.row_states.items) (tuples_in 0 c.self.inside.row_states.items) c.self.inside.taken.items c.self.invariant.0.ordered)) in
    stands-give c.args.self.now _ c.args.probe.ticket (c.standing.ensures c.args.self.now.spec few) c.requires (returns-clause-gives c)
