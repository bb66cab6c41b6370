use Rattle.std.proofs.Common.{◌<◌, ◌^◌, ◌+◌, ◌∙◌, ◌++◌, ◌∷◌, [], arith, length, refl, Some, List, ap, sym, subst}
use Rattle.std.specs.Arc.{arc_value}
use Rattle.pj_state.specs.States.{StateView}
use Rattle.pj_events.specs.Join.{inputs}
use Rattle.pj_probe.specs.declared.probe.Found.{Found}
use Rattle.pj_recheck.specs.Judging.{join_data}
use Rattle.pj_rows.specs.Tuples.{AreWide, tuples_in}
use Rattle.pj_join.specs.Sides.{first_of, log_of, puncts_of}
use Rattle.pj_join.proofs.Standing.{stands-taken}
use Rattle.pj_join.proofs.Calling.{several, done-fits, none-pending, take-finds}
use Rattle.pj_join.proofs.Kept.{all-row_states, first-is, own-there, shapes, takes-now, wide}
use Rattle.pj_probe.proofs.Routed.{route_at, route_classes, route_there}
use Rattle.pj_join.specs.Insides.{lowest}
use Rattle.pj_join.proofs.Lowest.{lowest_take}
use Rattle.pj_join.proofs.Watched.{watched_rises}
use Rattle.pj_join.proofs.join.Join.take.Goals as goal

pub probe_of-requires-clause-few : goal.probe_of-requires-clause-few
probe_of-requires-clause-few c = omega (arith, ap (λ (ss : List StateView). length ss) c.as_slice-in-Some.ensures.value, all-row_states (join_data (arc_value c.self.inside.spec) c.self.inside.schemes c.self.inside.certs) c.self.inside.limit c.self.inside.next c.self.inside.done c.self.inside.row_states.items c.self.inside.punct_stores.items c.self.inside.pending c.self.inside.taken.items c.self.invariant.0, c.self.invariant.0.ordered.sound.few_inputs.1, shapes (join_data (arc_value c.self.inside.spec) c.self.inside.schemes c.self.inside.certs) c.self.inside.limit c.self.inside.next c.self.inside.done c.self.inside.row_states.items c.self.inside.punct_stores.items c.self.inside.pending c.self.inside.taken.items c.self.invariant.0)

pub probe_of-requires-clause-there : goal.probe_of-requires-clause-there
probe_of-requires-clause-there c = subst (λ (ss : List StateView). c.in-Some.own.input < length ss) (sym c.as_slice-in-Some.ensures.value) (own-there (join_data (arc_value c.self.inside.spec) c.self.inside.schemes c.self.inside.certs) c.self.inside.limit c.self.inside.next c.self.inside.done c.self.inside.row_states.items c.self.inside.punct_stores.items c.self.inside.pending c.self.inside.taken.items c.self.invariant.0 c.in-Some.own (c.in-Some.ensures ∙ ap (λ (ss : List StateView). first_of ss c.self.inside.pending) c.as_slice.ensures.value ∙ first-is (join_data (arc_value c.self.inside.spec) c.self.inside.schemes c.self.inside.certs) c.self.inside.limit c.self.inside.next c.self.inside.done c.self.inside.row_states.items c.self.inside.punct_stores.items c.self.inside.pending c.self.inside.taken.items c.self.invariant.0))

pub probe_of-requires-clause-wide : goal.probe_of-requires-clause-wide
probe_of-requires-clause-wide c = subst (λ (ss : List StateView). AreWide ss) (sym c.as_slice-in-Some.ensures.value) (wide (join_data (arc_value c.self.inside.spec) c.self.inside.schemes c.self.inside.certs) c.self.inside.limit c.self.inside.next c.self.inside.done c.self.inside.row_states.items c.self.inside.punct_stores.items c.self.inside.pending c.self.inside.taken.items c.self.invariant.0)

pub route_of-requires : goal.route_of-requires
route_of-requires c = route_there (arc_value c.self.inside.spec).classes c.self.inside.row_states.items c.self.inside.routes c.in-Some.own.input c.self.invariant.3 (own-there (join_data (arc_value c.self.inside.spec) c.self.inside.schemes c.self.inside.certs) c.self.inside.limit c.self.inside.next c.self.inside.done c.self.inside.row_states.items c.self.inside.punct_stores.items c.self.inside.pending c.self.inside.taken.items c.self.invariant.0 c.in-Some.own (c.in-Some.ensures ∙ ap (λ (ss : List StateView). first_of ss c.self.inside.pending) c.as_slice.ensures.value ∙ first-is (join_data (arc_value c.self.inside.spec) c.self.inside.schemes c.self.inside.certs) c.self.inside.limit c.self.inside.next c.self.inside.done c.self.inside.row_states.items c.self.inside.punct_stores.items c.self.inside.pending c.self.inside.taken.items c.self.invariant.0))

pub probe_of-requires-clause-route : goal.probe_of-requires-clause-route
probe_of-requires-clause-route c = route_at (arc_value c.self.inside.spec).classes c.self.inside.row_states.items c.as_slice-in-Some.result.now c.self.inside.routes c.in-Some.own.input c.route_of.result.now c.self.invariant.3 c.as_slice-in-Some.ensures.value c.route_of.ensures

pub overflow_add-self : goal.overflow_add-self
overflow_add-self c = let f : c.self.inside.done < 2 ^ 40 + 1 = done-fits (join_data (arc_value c.self.inside.spec) c.self.inside.schemes c.self.inside.certs) c.self.inside.limit c.self.inside.next c.self.inside.done (log_of c.self.inside.row_states.items) (tuples_in 0 c.self.inside.row_states.items) c.self.inside.taken.items c.self.invariant.0.ordered in omega (arith, f)

pub invariant_of-self-in-Some : goal.invariant_of-self-in-Some
invariant_of-self-in-Some c =
    (takes-now (join_data (arc_value c.self.inside.spec) c.self.inside.schemes c.self.inside.certs) c.self.inside.limit c.self.inside.next c.self.inside.done c.self.inside.row_states.items c.self.inside.punct_stores.items c.self.inside.pending c.self.inside.taken.items c.self.invariant.0 c.in-Some.own c.push.new.self.items c.pop_first.new.self (c.in-Some.ensures ∙ ap (λ (ss : List StateView). first_of ss c.self.inside.pending) c.as_slice.ensures.value ∙ first-is (join_data (arc_value c.self.inside.spec) c.self.inside.schemes c.self.inside.certs) c.self.inside.limit c.self.inside.next c.self.inside.done c.self.inside.row_states.items c.self.inside.punct_stores.items c.self.inside.pending c.self.inside.taken.items c.self.invariant.0) (c.in_ok-push-in-Some.ensures.items ∙ ap (λ n. c.self.inside.taken.items ++ n ∷ []) (c.ticket.ensures ∙ ap (λ (f : Found). f.ticket) c.in_ok-probe-in-Some.ensures)) c.pop_first.ensures, watched_rises (join_data (arc_value c.self.inside.spec) c.self.inside.schemes c.self.inside.certs) c.self.inside.next (lowest c.self.inside.next c.self.inside.done (log_of c.self.inside.row_states.items) c.self.inside.taken.items) (lowest c.self.inside.next (c.self.inside.done + 1) (log_of c.self.inside.row_states.items) c.push.new.self.items) (log_of c.self.inside.row_states.items) (puncts_of c.self.inside.punct_stores.items) c.self.inside.due.items (lowest_take c.self.inside.next c.self.inside.done (log_of c.self.inside.row_states.items) c.self.inside.taken.items c.push.new.self.items c.in-Some.own (c.in-Some.ensures ∙ ap (λ (ss : List StateView). first_of ss c.self.inside.pending) c.as_slice.ensures.value ∙ first-is (join_data (arc_value c.self.inside.spec) c.self.inside.schemes c.self.inside.certs) c.self.inside.limit c.self.inside.next c.self.inside.done c.self.inside.row_states.items c.self.inside.punct_stores.items c.self.inside.pending c.self.inside.taken.items c.self.invariant.0) (c.in_ok-push-in-Some.ensures.items ∙ ap (λ n. c.self.inside.taken.items ++ n ∷ []) (c.ticket.ensures ∙ ap (λ (f : Found). f.ticket) c.in_ok-probe-in-Some.ensures))) c.self.invariant.1, c.self.invariant.2, c.self.invariant.3, c.self.invariant.4, c.self.invariant.5)

pub returns-in-None-clause-takes : goal.returns-in-None-clause-takes
returns-in-None-clause-takes c = rw (← c.self.view_is) (none-pending (log_of c.self.inside.row_states.items) c.self.inside.done (c.in-None.ensures ∙ ap (λ (ss : List StateView). first_of ss c.self.inside.pending) c.as_slice.ensures.value ∙ first-is (join_data (arc_value c.self.inside.spec) c.self.inside.schemes c.self.inside.certs) c.self.inside.limit c.self.inside.next c.self.inside.done c.self.inside.row_states.items c.self.inside.punct_stores.items c.self.inside.pending c.self.inside.taken.items c.self.invariant.0), refl)

pub returns-in_ok-push-in-Some-clause-takes : goal.returns-in_ok-push-in-Some-clause-takes
returns-in_ok-push-in-Some-clause-takes c =
    rw (← c.self.view_is) (take-finds c.self.inside.node (join_data (arc_value c.self.inside.spec) c.self.inside.schemes c.self.inside.certs) c.self.inside.limit c.self.inside.next c.self.inside.done (log_of c.self.inside.row_states.items) (tuples_in 0 c.self.inside.row_states.items) (puncts_of c.self.inside.punct_stores.items) c.self.inside.waiting.puncts c.self.inside.taken.items c.push.new.self.items c.in-Some.own c.in_ok-probe-in-Some.probe c.ticket.result c.self.invariant.0.ordered
    (c.in-Some.ensures ∙ ap (λ (ss : List StateView). first_of ss c.self.inside.pending) c.as_slice.ensures.value ∙ first-is (join_data (arc_value c.self.inside.spec) c.self.inside.schemes c.self.inside.certs) c.self.inside.limit c.self.inside.next c.self.inside.done c.self.inside.row_states.items c.self.inside.punct_stores.items c.self.inside.pending c.self.inside.taken.items c.self.invariant.0) (rw (← c.as_slice-in-Some.ensures.value, ← route_classes (arc_value c.self.inside.spec).classes c.self.inside.row_states.items c.self.inside.routes c.in-Some.own.input c.route_of.result.now c.self.invariant.3 c.route_of.ensures) c.in_ok-probe-in-Some.ensures) c.ticket.ensures c.in_ok-push-in-Some.ensures.items)

pub returns-in_ok-push-in-Some-clause-stands : goal.returns-in_ok-push-in-Some-clause-stands
returns-in_ok-push-in-Some-clause-stands c =
    let few : 1 < inputs c.args.self.now.spec = rw (← c.self.view_is) (several (join_data (arc_value c.self.inside.spec) c.self.inside.schemes c.self.inside.certs) c.self.inside.limit c.self.inside.next c.self.inside.done (log_of c.self.inside.row_states.items) (tuples_in 0 c.self.inside.row_states.items) c.self.inside.taken.items c.self.invariant.0.ordered) in
    let some : 0 < inputs c.args.self.now.spec = omega (arith, few) in
    stands-taken c.args.self.now _ (Some c.in_ok-probe-in-Some.probe) (c.standing.ensures c.args.self.now.spec some) (c.forgetting_is_safe.ensures.stored_suffice c.args.self.now.spec) (returns-in_ok-push-in-Some-clause-takes c)
