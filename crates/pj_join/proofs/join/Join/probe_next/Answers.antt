use Rattle.std.proofs.Common.{◌<◌, ◌^◌, ◌+◌, ◌∙◌, arith, length, refl, Some, List, ap, sym, subst}
use Rattle.std.specs.Arc.{arc_value}
use Rattle.pj_state.specs.States.{StateView}
use Rattle.pj_events.specs.Join.{inputs}
use Rattle.pj_recheck.specs.Judging.{join_data}
use Rattle.pj_rows.specs.Tuples.{AreWide, tuples_in}
use Rattle.pj_join.specs.Sides.{first_of, log_of, puncts_of}
use Rattle.pj_join.proofs.Standing.{stands-probed}
use Rattle.pj_join.proofs.Calling.{several, done-fits, none-pending, probe-does-at, probe-hands}
use Rattle.pj_join.proofs.Kept.{all-row_states, first-is, own-there, probes-now, shapes, wide}
use Rattle.pj_probe.proofs.Routed.{route_at, route_classes, route_there}
use Rattle.pj_join.specs.Insides.{lowest}
use Rattle.pj_join.proofs.Lowest.{lowest_probe}
use Rattle.pj_join.proofs.Watched.{watched_rises}
use Rattle.pj_join.proofs.join.Join.probe_next.Goals as goal

pub hand_out_found-requires-clause-few : goal.hand_out_found-requires-clause-few
hand_out_found-requires-clause-few c = omega (arith, ap (λ (ss : List StateView). length ss) c.as_slice-in-Some.ensures.value, all-row_states (join_data (arc_value c.self.inside.spec) c.self.inside.schemes c.self.inside.certs) c.self.inside.limit c.self.inside.next c.self.inside.done c.self.inside.row_states.items c.self.inside.punct_stores.items c.self.inside.pending c.self.inside.taken.items c.self.invariant.0, c.self.invariant.0.ordered.sound.few_inputs.1, shapes (join_data (arc_value c.self.inside.spec) c.self.inside.schemes c.self.inside.certs) c.self.inside.limit c.self.inside.next c.self.inside.done c.self.inside.row_states.items c.self.inside.punct_stores.items c.self.inside.pending c.self.inside.taken.items c.self.invariant.0)

pub hand_out_found-requires-clause-there : goal.hand_out_found-requires-clause-there
hand_out_found-requires-clause-there c = subst (λ (ss : List StateView). c.in-Some.own.input < length ss) (sym c.as_slice-in-Some.ensures.value) (own-there (join_data (arc_value c.self.inside.spec) c.self.inside.schemes c.self.inside.certs) c.self.inside.limit c.self.inside.next c.self.inside.done c.self.inside.row_states.items c.self.inside.punct_stores.items c.self.inside.pending c.self.inside.taken.items c.self.invariant.0 c.in-Some.own (c.in-Some.ensures ∙ ap (λ (ss : List StateView). first_of ss c.self.inside.pending) c.as_slice.ensures.value ∙ first-is (join_data (arc_value c.self.inside.spec) c.self.inside.schemes c.self.inside.certs) c.self.inside.limit c.self.inside.next c.self.inside.done c.self.inside.row_states.items c.self.inside.punct_stores.items c.self.inside.pending c.self.inside.taken.items c.self.invariant.0))

pub hand_out_found-requires-clause-wide : goal.hand_out_found-requires-clause-wide
hand_out_found-requires-clause-wide c = subst (λ (ss : List StateView). AreWide ss) (sym c.as_slice-in-Some.ensures.value) (wide (join_data (arc_value c.self.inside.spec) c.self.inside.schemes c.self.inside.certs) c.self.inside.limit c.self.inside.next c.self.inside.done c.self.inside.row_states.items c.self.inside.punct_stores.items c.self.inside.pending c.self.inside.taken.items c.self.invariant.0)

pub route_of-requires : goal.route_of-requires
route_of-requires c = route_there (arc_value c.self.inside.spec).classes c.self.inside.row_states.items c.self.inside.routes c.in-Some.own.input c.self.invariant.3 (own-there (join_data (arc_value c.self.inside.spec) c.self.inside.schemes c.self.inside.certs) c.self.inside.limit c.self.inside.next c.self.inside.done c.self.inside.row_states.items c.self.inside.punct_stores.items c.self.inside.pending c.self.inside.taken.items c.self.invariant.0 c.in-Some.own (c.in-Some.ensures ∙ ap (λ (ss : List StateView). first_of ss c.self.inside.pending) c.as_slice.ensures.value ∙ first-is (join_data (arc_value c.self.inside.spec) c.self.inside.schemes c.self.inside.certs) c.self.inside.limit c.self.inside.next c.self.inside.done c.self.inside.row_states.items c.self.inside.punct_stores.items c.self.inside.pending c.self.inside.taken.items c.self.invariant.0))

pub hand_out_found-requires-clause-route : goal.hand_out_found-requires-clause-route
hand_out_found-requires-clause-route c = route_at (arc_value c.self.inside.spec).classes c.self.inside.row_states.items c.as_slice-in-Some.result.now c.self.inside.routes c.in-Some.own.input c.route_of.result.now c.self.invariant.3 c.as_slice-in-Some.ensures.value c.route_of.ensures

pub overflow_add-self : goal.overflow_add-self
overflow_add-self c = let f : c.self.inside.done < 2 ^ 40 + 1 = done-fits (join_data (arc_value c.self.inside.spec) c.self.inside.schemes c.self.inside.certs) c.self.inside.limit c.self.inside.next c.self.inside.done (log_of c.self.inside.row_states.items) (tuples_in 0 c.self.inside.row_states.items) c.self.inside.taken.items c.self.invariant.0.ordered in omega (arith, f)

pub invariant_of-self : goal.invariant_of-self
invariant_of-self c = (probes-now (join_data (arc_value c.self.inside.spec) c.self.inside.schemes c.self.inside.certs) c.self.inside.limit c.self.inside.next c.self.inside.done c.self.inside.row_states.items c.self.inside.punct_stores.items c.self.inside.pending c.self.inside.taken.items c.self.invariant.0 c.in-Some.own c.pop_first.new.self (c.in-Some.ensures ∙ ap (λ (ss : List StateView). first_of ss c.self.inside.pending) c.as_slice.ensures.value ∙ first-is (join_data (arc_value c.self.inside.spec) c.self.inside.schemes c.self.inside.certs) c.self.inside.limit c.self.inside.next c.self.inside.done c.self.inside.row_states.items c.self.inside.punct_stores.items c.self.inside.pending c.self.inside.taken.items c.self.invariant.0) c.pop_first.ensures, watched_rises (join_data (arc_value c.self.inside.spec) c.self.inside.schemes c.self.inside.certs) c.self.inside.next (lowest c.self.inside.next c.self.inside.done (log_of c.self.inside.row_states.items) c.self.inside.taken.items) (lowest c.self.inside.next (c.self.inside.done + 1) (log_of c.self.inside.row_states.items) c.self.inside.taken.items) (log_of c.self.inside.row_states.items) (puncts_of c.self.inside.punct_stores.items) c.self.inside.due.items (lowest_probe c.self.inside.next c.self.inside.done (log_of c.self.inside.row_states.items) c.self.inside.taken.items c.in-Some.own (c.in-Some.ensures ∙ ap (λ (ss : List StateView). first_of ss c.self.inside.pending) c.as_slice.ensures.value ∙ first-is (join_data (arc_value c.self.inside.spec) c.self.inside.schemes c.self.inside.certs) c.self.inside.limit c.self.inside.next c.self.inside.done c.self.inside.row_states.items c.self.inside.punct_stores.items c.self.inside.pending c.self.inside.taken.items c.self.invariant.0)) c.self.invariant.1, c.self.invariant.2, c.self.invariant.3, c.self.invariant.4, c.self.invariant.5)

pub returns-in-None-clause-probes : goal.returns-in-None-clause-probes
returns-in-None-clause-probes c = rw (← c.self.view_is) (none-pending (log_of c.self.inside.row_states.items) c.self.inside.done (c.in-None.ensures ∙ ap (λ (ss : List StateView). first_of ss c.self.inside.pending) c.as_slice.ensures.value ∙ first-is (join_data (arc_value c.self.inside.spec) c.self.inside.schemes c.self.inside.certs) c.self.inside.limit c.self.inside.next c.self.inside.done c.self.inside.row_states.items c.self.inside.punct_stores.items c.self.inside.pending c.self.inside.taken.items c.self.invariant.0), refl)

pub returns-in_ok-hand_out_found-in-Some-clause-probes : goal.returns-in_ok-hand_out_found-in-Some-clause-probes
returns-in_ok-hand_out_found-in-Some-clause-probes c =
    probe-does-at c.self.inside.node (join_data (arc_value c.self.inside.spec) c.self.inside.schemes c.self.inside.certs) c.self.inside.limit c.self.inside.next c.self.inside.done (log_of c.self.inside.row_states.items) (tuples_in 0 c.self.inside.row_states.items) (puncts_of c.self.inside.punct_stores.items) c.self.inside.waiting.puncts c.self.inside.taken.items c.in-Some.own
    c.self.invariant.0.ordered (c.in-Some.ensures ∙ ap (λ (ss : List StateView). first_of ss c.self.inside.pending) c.as_slice.ensures.value ∙ first-is (join_data (arc_value c.self.inside.spec) c.self.inside.schemes c.self.inside.certs) c.self.inside.limit c.self.inside.next c.self.inside.done c.self.inside.row_states.items c.self.inside.punct_stores.items c.self.inside.pending c.self.inside.taken.items c.self.invariant.0) c.args.self.now c.self.view_is c.ticket-ticket.result c.ticket-ticket.ensures

pub returns-in_ok-hand_out_found-in-Some-clause-hands : goal.returns-in_ok-hand_out_found-in-Some-clause-hands
returns-in_ok-hand_out_found-in-Some-clause-hands c =
    probe-hands c.self.inside.node (join_data (arc_value c.self.inside.spec) c.self.inside.schemes c.self.inside.certs) c.self.inside.limit c.self.inside.next c.self.inside.done (log_of c.self.inside.row_states.items) (tuples_in 0 c.self.inside.row_states.items) (puncts_of c.self.inside.punct_stores.items) c.self.inside.waiting.puncts c.self.inside.taken.items c.in-Some.own
    c.self.invariant.0.ordered (c.in-Some.ensures ∙ ap (λ (ss : List StateView). first_of ss c.self.inside.pending) c.as_slice.ensures.value ∙ first-is (join_data (arc_value c.self.inside.spec) c.self.inside.schemes c.self.inside.certs) c.self.inside.limit c.self.inside.next c.self.inside.done c.self.inside.row_states.items c.self.inside.punct_stores.items c.self.inside.pending c.self.inside.taken.items c.self.invariant.0) c.args.self.now c.self.view_is c.ticket-ticket.result c.ticket-ticket.ensures c.args.outs.now c.hand_out_found.new.outs
    (rw (← c.as_slice-in-Some.ensures.value, ← route_classes (arc_value c.self.inside.spec).classes c.self.inside.row_states.items c.self.inside.routes c.in-Some.own.input c.route_of.result.now c.self.invariant.3 c.route_of.ensures) c.in_ok-hand_out_found-in-Some.ensures.ok)

pub returns-in_ok-hand_out_found-in-Some-clause-stands : goal.returns-in_ok-hand_out_found-in-Some-clause-stands
returns-in_ok-hand_out_found-in-Some-clause-stands c =
    let few : 1 < inputs c.args.self.now.spec = rw (← c.self.view_is) (several (join_data (arc_value c.self.inside.spec) c.self.inside.schemes c.self.inside.certs) c.self.inside.limit c.self.inside.next c.self.inside.done (log_of c.self.inside.row_states.items) (tuples_in 0 c.self.inside.row_states.items) c.self.inside.taken.items c.self.invariant.0.ordered) in
    let some : 0 < inputs c.args.self.now.spec = omega (arith, few) in
    stands-probed c.args.self.now _ (Some c.ticket-ticket.result) (c.standing.ensures c.args.self.now.spec some) (c.forgetting_is_safe.ensures.stored_suffice c.args.self.now.spec) (returns-in_ok-hand_out_found-in-Some-clause-probes c)
