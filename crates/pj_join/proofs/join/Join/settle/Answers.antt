use Rattle.std.proofs.Common.{◌≡◌, ◌<◌, ◌∙◌, [], List, ap, arith, length, set, sym, subst}
use Rattle.std.proofs.lemmas.List.{length-map}
use Rattle.std.specs.Arc.{arc_value}
use Rattle.pj_events.specs.Join.{TupleAt, inputs}
use Rattle.pj_events.specs.KeptState.{kept_low, swept}
use Rattle.pj_join.specs.Insides.{made_with, seen, tickets}
use Rattle.pj_recheck.specs.Judging.{join_data}
use Rattle.pj_join.specs.Sweeping.{waiting_on, swept_off}
use Rattle.pj_state.specs.States.{StateView}
use Rattle.pj_rows.specs.Tuples.{AreWide}
use Rattle.pj_join.specs.Sides.{log_of, puncts_of}
use Rattle.pj_join.proofs.Kept.{all-row_states, wide}
use Rattle.pj_rows.proofs.States.{state_is}
use Rattle.pj_join.proofs.Swept.{few-gone, join-swept, view-left}
use Rattle.pj_join.specs.Watched.{AreOpenBut}
use Rattle.pj_join.proofs.Holding.{held_none}
use Rattle.pj_probe.proofs.Routed.{routes_kept}
use Rattle.pj_join.proofs.Settled.{settled}
use Rattle.pj_recheck.proofs.Woken.{set-count}
use Rattle.pj_recheck.proofs.Rechecked.{back_fit_now, columns_set, roused_now, routes_stay}
use Rattle.pj_join.proofs.join.Join.settle.Goals as goal

pub overflow_sub-self : goal.overflow_sub-self
overflow_sub-self c =
    let lt : c.args.input < inputs c.args.self.now.spec = c.requires.there in
    let there : c.args.input < inputs (join_data (arc_value c.self.inside.spec) c.self.inside.schemes c.self.inside.certs) = rw (← c.self.view_is) at lt in
    let goes : c.args.left.gone ≡ tickets (swept_off c.args.self.now c.args.input) = c.requires.gone in
    let gone : c.args.left.gone ≡ tickets (swept_off (seen (made_with c.self.inside.node (join_data (arc_value c.self.inside.spec) c.self.inside.schemes c.self.inside.certs) c.self.inside.limit) c.self.inside.next c.self.inside.done (log_of c.self.inside.row_states.items) (puncts_of c.self.inside.punct_stores.items) c.self.inside.waiting.puncts c.self.inside.taken.items) c.args.input) = rw (← c.self.view_is) at goes in
    omega (arith, few-gone c.self.inside.node (join_data (arc_value c.self.inside.spec) c.self.inside.schemes c.self.inside.certs) c.self.inside.limit c.self.inside.next c.self.inside.done c.self.inside.row_states.items c.self.inside.punct_stores.items c.self.inside.pending c.self.inside.taken.items c.self.inside.waiting.puncts c.args.input c.self.invariant.0 there c.args.left.gone gone, c.len-count.ensures)

pub index_mut-requires-2 : goal.index_mut-requires-2
index_mut-requires-2 c =
    let lt : c.args.input < inputs c.args.self.now.spec = c.requires.there in
    let there : c.args.input < inputs (join_data (arc_value c.self.inside.spec) c.self.inside.schemes c.self.inside.certs) = rw (← c.self.view_is) at lt in
    omega (arith, there, all-row_states (join_data (arc_value c.self.inside.spec) c.self.inside.schemes c.self.inside.certs) c.self.inside.limit c.self.inside.next c.self.inside.done c.self.inside.row_states.items c.self.inside.punct_stores.items c.self.inside.pending c.self.inside.taken.items c.self.invariant.0, c.self.inside.row_states.ok)

pub index_mut-requires : goal.index_mut-requires
index_mut-requires c =
    let lt : c.args.input < inputs c.args.self.now.spec = c.requires.there in
    let there : c.args.input < inputs (join_data (arc_value c.self.inside.spec) c.self.inside.schemes c.self.inside.certs) = rw (← c.self.view_is) at lt in
    omega (arith, there, c.self.invariant.1.count, c.self.inside.due.ok)

pub index-requires : goal.index-requires
index-requires c =
    let lt : c.args.input < inputs c.args.self.now.spec = c.requires.there in
    let there : c.args.input < inputs (join_data (arc_value c.self.inside.spec) c.self.inside.schemes c.self.inside.certs) = rw (← c.self.view_is) at lt in
    omega (arith, there, c.self.invariant.4.long, c.self.inside.rechecks.ok)

pub mark_dependents-requires-clause-fit : goal.mark_dependents-requires-clause-fit
mark_dependents-requires-clause-fit c =
    let lt : c.args.input < inputs c.args.self.now.spec = c.requires.there in
    let there : c.args.input < inputs (join_data (arc_value c.self.inside.spec) c.self.inside.schemes c.self.inside.certs) = rw (← c.self.view_is) at lt in
    back_fit_now (join_data (arc_value c.self.inside.spec) c.self.inside.schemes c.self.inside.certs) c.self.inside.row_states.items c.as_slice-2.result.now c.self.inside.rechecks.items c.args.input c.index.result.now c.as_slice.result.now c.self.invariant.4 there c.index.ensures c.as_slice.ensures c.as_slice-2.ensures.value

pub mark_dependents-requires-clause-wide : goal.mark_dependents-requires-clause-wide
mark_dependents-requires-clause-wide c = subst (λ (ss : List StateView). AreWide ss) (sym c.as_slice-2.ensures.value) (wide (join_data (arc_value c.self.inside.spec) c.self.inside.schemes c.self.inside.certs) c.self.inside.limit c.self.inside.next c.self.inside.done c.self.inside.row_states.items c.self.inside.punct_stores.items c.self.inside.pending c.self.inside.taken.items c.self.invariant.0)

pub invariant_of-self : goal.invariant_of-self
invariant_of-self c =
    let lt : c.args.input < inputs c.args.self.now.spec = c.requires.there in
    let there : c.args.input < inputs (join_data (arc_value c.self.inside.spec) c.self.inside.schemes c.self.inside.certs) = rw (← c.self.view_is) at lt in
    let goes : c.args.left.gone ≡ tickets (swept_off c.args.self.now c.args.input) = c.requires.gone in
    let gone : c.args.left.gone ≡ tickets (swept_off (seen (made_with c.self.inside.node (join_data (arc_value c.self.inside.spec) c.self.inside.schemes c.self.inside.certs) c.self.inside.limit) c.self.inside.next c.self.inside.done (log_of c.self.inside.row_states.items) (puncts_of c.self.inside.punct_stores.items) c.self.inside.waiting.puncts c.self.inside.taken.items) c.args.input) = rw (← c.self.view_is) at goes in
    let kept : c.low-from.result ≡ kept_low c.args.self.now.kept = c.low-from.ensures.kept in
    let low : c.low-from.result ≡ kept_low (seen (made_with c.self.inside.node (join_data (arc_value c.self.inside.spec) c.self.inside.schemes c.self.inside.certs) c.self.inside.limit) c.self.inside.next c.self.inside.done (log_of c.self.inside.row_states.items) (puncts_of c.self.inside.punct_stores.items) c.self.inside.waiting.puncts c.self.inside.taken.items).kept = rw (← c.self.view_is) at kept in
    let beside : c.args.self.now.kept.waiting ≡ [] = c.requires.beside in
    let none : c.self.inside.waiting.puncts ≡ [] = rw (← c.self.view_is) at beside in
    let marks : AreOpenBut c.args.self.now c.args.input c.args.left.marked = c.requires.marked in (
      rw (c.len-count.ensures) (join-swept c.self.inside.node (join_data (arc_value c.self.inside.spec) c.self.inside.schemes c.self.inside.certs) c.self.inside.limit c.self.inside.next c.self.inside.done c.self.inside.row_states.items c.self.inside.punct_stores.items c.self.inside.pending c.self.inside.taken.items c.self.inside.waiting.puncts c.args.input c.self.invariant.0 there c.args.left.gone gone c.index_mut-2.result.now c.remove_all.new.state (state_is c.self.inside.row_states.items c.args.input c.index_mut-2.result.now (inputs (join_data (arc_value c.self.inside.spec) c.self.inside.schemes c.self.inside.certs)) (all-row_states (join_data (arc_value c.self.inside.spec) c.self.inside.schemes c.self.inside.certs) c.self.inside.limit c.self.inside.next c.self.inside.done c.self.inside.row_states.items c.self.inside.punct_stores.items c.self.inside.pending c.self.inside.taken.items c.self.invariant.0) there c.index_mut-2.ensures.value) (rw (← c.as_slice-4.ensures) c.remove_all.ensures)),
      rw (c.len-count.ensures)
          (settled c.self.inside.node (join_data (arc_value c.self.inside.spec) c.self.inside.schemes c.self.inside.certs) c.self.inside.limit c.self.inside.next c.self.inside.done c.self.inside.row_states.items c.self.inside.punct_stores.items c.self.inside.pending c.self.inside.taken.items c.self.inside.waiting.puncts c.args.input c.self.invariant.0 there c.args.left.gone gone c.index_mut-2.result.now c.remove_all.new.state (state_is c.self.inside.row_states.items c.args.input c.index_mut-2.result.now (inputs (join_data (arc_value c.self.inside.spec) c.self.inside.schemes c.self.inside.certs)) (all-row_states (join_data (arc_value c.self.inside.spec) c.self.inside.schemes c.self.inside.certs) c.self.inside.limit c.self.inside.next c.self.inside.done c.self.inside.row_states.items c.self.inside.punct_stores.items c.self.inside.pending c.self.inside.taken.items c.self.invariant.0) there c.index_mut-2.ensures.value) (rw (← c.as_slice-4.ensures) c.remove_all.ensures) c.low-from.result c.args.left.marked c.self.inside.due.items c.mark_dependents.new.due.items low c.self.invariant.1 (rw (← c.self.view_is) at marks)
          c.mark_dependents.ensures.fewer (roused_now (join_data (arc_value c.self.inside.spec) c.self.inside.schemes c.self.inside.certs) c.self.inside.row_states.items c.as_slice-2.result.now c.self.inside.rechecks.items c.args.input c.args.left.gone c.as_slice-3.result.now c.index.result.now c.as_slice.result.now (set c.self.inside.due.items c.args.input (record { from = c.low-from.result; marked = c.args.left.marked })) c.mark_dependents.new.due.items c.self.invariant.4 there c.index.ensures c.as_slice.ensures c.as_slice-2.ensures.value c.as_slice-3.ensures (set-count c.self.inside.due.items c.args.input (record { from = c.low-from.result; marked = c.args.left.marked }) ∙ c.self.invariant.1.count) c.mark_dependents.ensures.fewer c.mark_dependents.ensures.aside)),
      held_none c.self.inside.next _ c.self.inside.waiting none,
      routes_kept (arc_value c.self.inside.spec).classes c.self.inside.row_states.items c.self.inside.routes c.args.input c.index_mut-2.result.now c.remove_all.new.state c.self.invariant.3 (omega (arith, there, (all-row_states (join_data (arc_value c.self.inside.spec) c.self.inside.schemes c.self.inside.certs) c.self.inside.limit c.self.inside.next c.self.inside.done c.self.inside.row_states.items c.self.inside.punct_stores.items c.self.inside.pending c.self.inside.taken.items c.self.invariant.0))) c.index_mut-2.ensures.value (ap (λ (s : StateView). s.columns) c.remove_all.ensures),
      routes_stay (join_data (arc_value c.self.inside.spec) c.self.inside.schemes c.self.inside.certs) c.self.inside.row_states.items (set c.self.inside.row_states.items c.args.input c.remove_all.new.state) (inputs (join_data (arc_value c.self.inside.spec) c.self.inside.schemes c.self.inside.certs)) c.self.inside.rechecks.items (columns_set c.self.inside.row_states.items c.args.input c.index_mut-2.result.now c.remove_all.new.state c.index_mut-2.ensures.value (ap (λ (s : StateView). s.columns) c.remove_all.ensures)) c.self.invariant.4,
      c.self.invariant.5,
    )

pub returns-clause-sweeps : goal.returns-clause-sweeps
returns-clause-sweeps c =
    let lt : c.args.input < inputs c.args.self.now.spec = c.requires.there in
    let there : c.args.input < inputs (join_data (arc_value c.self.inside.spec) c.self.inside.schemes c.self.inside.certs) = rw (← c.self.view_is) at lt in
    let goes : c.args.left.gone ≡ tickets (swept_off c.args.self.now c.args.input) = c.requires.gone in
    let gone : c.args.left.gone ≡ tickets (swept_off (seen (made_with c.self.inside.node (join_data (arc_value c.self.inside.spec) c.self.inside.schemes c.self.inside.certs) c.self.inside.limit) c.self.inside.next c.self.inside.done (log_of c.self.inside.row_states.items) (puncts_of c.self.inside.punct_stores.items) c.self.inside.waiting.puncts c.self.inside.taken.items) c.args.input) = rw (← c.self.view_is) at goes in
    let beside : c.args.self.now.kept.waiting ≡ [] = c.requires.beside in
    let none : c.self.inside.waiting.puncts ≡ [] = rw (← c.self.view_is) at beside in
    rw (c.len-count.ensures, ← c.self.view_is) (view-left c.self.inside.node (join_data (arc_value c.self.inside.spec) c.self.inside.schemes c.self.inside.certs) c.self.inside.limit c.self.inside.next c.self.inside.done c.self.inside.row_states.items c.self.inside.punct_stores.items c.self.inside.pending c.self.inside.taken.items c.self.inside.waiting.puncts c.args.input c.self.invariant.0 there c.args.left.gone gone c.index_mut-2.result.now c.remove_all.new.state (state_is c.self.inside.row_states.items c.args.input c.index_mut-2.result.now (inputs (join_data (arc_value c.self.inside.spec) c.self.inside.schemes c.self.inside.certs)) (all-row_states (join_data (arc_value c.self.inside.spec) c.self.inside.schemes c.self.inside.certs) c.self.inside.limit c.self.inside.next c.self.inside.done c.self.inside.row_states.items c.self.inside.punct_stores.items c.self.inside.pending c.self.inside.taken.items c.self.invariant.0) there c.index_mut-2.ensures.value) (rw (← c.as_slice-4.ensures) c.remove_all.ensures) c.self.inside.waiting.puncts (none ∙ sym (ap (waiting_on (swept (seen (made_with c.self.inside.node (join_data (arc_value c.self.inside.spec) c.self.inside.schemes c.self.inside.certs) c.self.inside.limit) c.self.inside.next c.self.inside.done (log_of c.self.inside.row_states.items) (puncts_of c.self.inside.punct_stores.items) c.self.inside.waiting.puncts c.self.inside.taken.items).spec (seen (made_with c.self.inside.node (join_data (arc_value c.self.inside.spec) c.self.inside.schemes c.self.inside.certs) c.self.inside.limit) c.self.inside.next c.self.inside.done (log_of c.self.inside.row_states.items) (puncts_of c.self.inside.punct_stores.items) c.self.inside.waiting.puncts c.self.inside.taken.items).kept c.args.input) c.args.input) none)))

pub returns-clause-count : goal.returns-clause-count
returns-clause-count c = c.len-count.ensures ∙ ap (λ ts. length ts) c.requires.gone ∙ length-map (swept_off c.args.self.now c.args.input) (λ (x : TupleAt). x.ticket)
