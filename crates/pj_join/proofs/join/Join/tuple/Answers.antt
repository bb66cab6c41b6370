use Rattle.std.proofs.Common.{◌≡◌, ◌<◌, ◌+◌, ◌++◌, ◌∷◌, [], ◌∙◌, List, length, ap, arith, refl, set, sym, subst}
use Rattle.std.proofs.lemmas.Bool.{false≢true}
use Rattle.std.specs.Arc.{arc_value}
use Rattle.pj_events.specs.Join.{TupleAt, Value, arity, inputs}
use Rattle.pj_recheck.specs.Judging.{join_data}
use Rattle.pj_join.specs.Sides.{log_of, puncts_of}
use Rattle.pj_rows.specs.Tuples.{tuples_in}
use Rattle.pj_join.proofs.Standing.{stands-tuple}
use Rattle.pj_join.proofs.Calling.{several, tuple-keeps}
use Rattle.pj_join.proofs.Kept.{all-row_states, columns-of-below, join-more, log-more, rows-of-below}
use Rattle.pj_rows.proofs.States.{state_is}
use Rattle.pj_probe.proofs.Routed.{routes_kept}
use Rattle.pj_state.specs.States.{StateView}
use Rattle.pj_join.proofs.Lowest.{lowest_tuple}
use Rattle.pj_join.specs.Insides.{lowest}
use Rattle.pj_join.proofs.Watched.{watched_tuple}
use Rattle.pj_join.specs.Held.{AreHeld}
use Rattle.pj_join.specs.Watched.{AreWatched}
use Rattle.pj_join.proofs.Holding.{held_more}
use Rattle.pj_recheck.proofs.Rechecked.{columns_set, routes_stay}
use Rattle.pj_join.proofs.join.Join.tuple.Goals as goal

pub index_mut-requires : goal.index_mut-requires
index_mut-requires c =
    let lt : c.args.input < inputs c.args.self.now.spec = c.requires.fits.0 in
    let there : c.args.input < inputs (join_data (arc_value c.self.inside.spec) c.self.inside.schemes c.self.inside.certs) = rw (← c.self.view_is) at lt in
    omega (arith, there, all-row_states (join_data (arc_value c.self.inside.spec) c.self.inside.schemes c.self.inside.certs) c.self.inside.limit c.self.inside.next c.self.inside.done c.self.inside.row_states.items c.self.inside.punct_stores.items c.self.inside.pending c.self.inside.taken.items c.self.invariant.0, c.self.inside.row_states.ok)

pub store-requires-clause-later : goal.store-requires-clause-later
store-requires-clause-later c =
    let lt : c.args.input < inputs c.args.self.now.spec = c.requires.fits.0 in
    let there : c.args.input < inputs (join_data (arc_value c.self.inside.spec) c.self.inside.schemes c.self.inside.certs) = rw (← c.self.view_is) at lt in
    rows-of-below (join_data (arc_value c.self.inside.spec) c.self.inside.schemes c.self.inside.certs) c.self.inside.limit c.self.inside.next c.self.inside.done c.self.inside.row_states.items c.self.inside.punct_stores.items c.self.inside.pending c.self.inside.taken.items c.self.invariant.0 c.args.input _ there (state_is c.self.inside.row_states.items c.args.input _ (inputs (join_data (arc_value c.self.inside.spec) c.self.inside.schemes c.self.inside.certs)) (all-row_states (join_data (arc_value c.self.inside.spec) c.self.inside.schemes c.self.inside.certs) c.self.inside.limit c.self.inside.next c.self.inside.done c.self.inside.row_states.items c.self.inside.punct_stores.items c.self.inside.pending c.self.inside.taken.items c.self.invariant.0) there c.index_mut.ensures.value)

pub store-requires-clause-wide : goal.store-requires-clause-wide
store-requires-clause-wide c =
    let lt : c.args.input < inputs c.args.self.now.spec = c.requires.fits.0 in
    let there : c.args.input < inputs (join_data (arc_value c.self.inside.spec) c.self.inside.schemes c.self.inside.certs) = rw (← c.self.view_is) at lt in
    let fits : length c.args.row ≡ arity c.args.self.now.spec c.args.input = c.requires.fits.1 in
    let long : length c.args.row ≡ arity (join_data (arc_value c.self.inside.spec) c.self.inside.schemes c.self.inside.certs) c.args.input = rw (← c.self.view_is) at fits in
    columns-of-below (join_data (arc_value c.self.inside.spec) c.self.inside.schemes c.self.inside.certs) c.self.inside.limit c.self.inside.next c.self.inside.done c.self.inside.row_states.items c.self.inside.punct_stores.items c.self.inside.pending c.self.inside.taken.items c.self.invariant.0 c.args.input (length c.in_ok-row.row) _ there (ap (λ (vs : List Value). length vs) c.in_ok-row.ensures ∙ long)
    (state_is c.self.inside.row_states.items c.args.input _ (inputs (join_data (arc_value c.self.inside.spec) c.self.inside.schemes c.self.inside.certs)) (all-row_states (join_data (arc_value c.self.inside.spec) c.self.inside.schemes c.self.inside.certs) c.self.inside.limit c.self.inside.next c.self.inside.done c.self.inside.row_states.items c.self.inside.punct_stores.items c.self.inside.pending c.self.inside.taken.items c.self.invariant.0) there c.index_mut.ensures.value)

pub invariant_of-self-2 : goal.invariant_of-self-2
invariant_of-self-2 c =
    let lt : c.args.input < inputs c.args.self.now.spec = c.requires.fits.0 in
    let there : c.args.input < inputs (join_data (arc_value c.self.inside.spec) c.self.inside.schemes c.self.inside.certs) = rw (← c.self.view_is) at lt in
    let fits : length c.args.row ≡ arity c.args.self.now.spec c.args.input = c.requires.fits.1 in
    let long : length c.args.row ≡ arity (join_data (arc_value c.self.inside.spec) c.self.inside.schemes c.self.inside.certs) c.args.input = rw (← c.self.view_is) at fits in (
      join-more (join_data (arc_value c.self.inside.spec) c.self.inside.schemes c.self.inside.certs) c.self.inside.limit c.self.inside.next c.self.inside.done c.self.inside.row_states.items c.self.inside.punct_stores.items c.self.inside.pending c.self.inside.taken.items c.self.invariant.0 c.args.input c.args.row _ c.store.new.state (λ e. false≢true (c.if-is_full.ensures.1 e)) there long
          (state_is c.self.inside.row_states.items c.args.input _ (inputs (join_data (arc_value c.self.inside.spec) c.self.inside.schemes c.self.inside.certs)) (all-row_states (join_data (arc_value c.self.inside.spec) c.self.inside.schemes c.self.inside.certs) c.self.inside.limit c.self.inside.next c.self.inside.done c.self.inside.row_states.items c.self.inside.punct_stores.items c.self.inside.pending c.self.inside.taken.items c.self.invariant.0) there c.index_mut.ensures.value)
          (rw (← c.in_ok-row.ensures) c.in_ok-store.ensures.state) c.store.new.pending c.in_ok-store.ensures.pending,
      subst (λ (xs : List TupleAt). AreWatched (join_data (arc_value c.self.inside.spec) c.self.inside.schemes c.self.inside.certs) (c.self.inside.next + 1) (lowest (c.self.inside.next + 1) c.self.inside.done xs c.self.inside.taken.items) xs (puncts_of c.self.inside.punct_stores.items) c.self.inside.due.items) (sym (log-more (join_data (arc_value c.self.inside.spec) c.self.inside.schemes c.self.inside.certs) c.self.inside.limit c.self.inside.next c.self.inside.done c.self.inside.row_states.items c.self.inside.punct_stores.items c.self.inside.pending c.self.inside.taken.items c.self.invariant.0 c.args.input c.args.row _ c.store.new.state (λ e. false≢true (c.if-is_full.ensures.1 e)) there long
          (state_is c.self.inside.row_states.items c.args.input _ (inputs (join_data (arc_value c.self.inside.spec) c.self.inside.schemes c.self.inside.certs)) (all-row_states (join_data (arc_value c.self.inside.spec) c.self.inside.schemes c.self.inside.certs) c.self.inside.limit c.self.inside.next c.self.inside.done c.self.inside.row_states.items c.self.inside.punct_stores.items c.self.inside.pending c.self.inside.taken.items c.self.invariant.0) there c.index_mut.ensures.value) (rw (← c.in_ok-row.ensures) c.in_ok-store.ensures.state)))
          (watched_tuple (join_data (arc_value c.self.inside.spec) c.self.inside.schemes c.self.inside.certs) c.self.inside.next (lowest c.self.inside.next c.self.inside.done (log_of c.self.inside.row_states.items) c.self.inside.taken.items) (lowest (c.self.inside.next + 1) c.self.inside.done ((log_of c.self.inside.row_states.items) ++ (record { ticket = c.self.inside.next; input = c.args.input; row = c.args.row }) ∷ []) c.self.inside.taken.items) (log_of c.self.inside.row_states.items) (puncts_of c.self.inside.punct_stores.items) c.self.inside.due.items (record { ticket = c.self.inside.next; input = c.args.input; row = c.args.row }) refl (lowest_tuple c.self.inside.next c.self.inside.done (log_of c.self.inside.row_states.items) c.self.inside.taken.items (record { ticket = c.self.inside.next; input = c.args.input; row = c.args.row }) refl c.self.invariant.0.ordered.within) c.self.invariant.1),
      subst (λ (xs : List TupleAt). AreHeld (c.self.inside.next + 1) xs c.self.inside.waiting) (sym (log-more (join_data (arc_value c.self.inside.spec) c.self.inside.schemes c.self.inside.certs) c.self.inside.limit c.self.inside.next c.self.inside.done c.self.inside.row_states.items c.self.inside.punct_stores.items c.self.inside.pending c.self.inside.taken.items c.self.invariant.0 c.args.input c.args.row _ c.store.new.state (λ e. false≢true (c.if-is_full.ensures.1 e)) there long
          (state_is c.self.inside.row_states.items c.args.input _ (inputs (join_data (arc_value c.self.inside.spec) c.self.inside.schemes c.self.inside.certs)) (all-row_states (join_data (arc_value c.self.inside.spec) c.self.inside.schemes c.self.inside.certs) c.self.inside.limit c.self.inside.next c.self.inside.done c.self.inside.row_states.items c.self.inside.punct_stores.items c.self.inside.pending c.self.inside.taken.items c.self.invariant.0) there c.index_mut.ensures.value) (rw (← c.in_ok-row.ensures) c.in_ok-store.ensures.state))) (held_more c.self.inside.next (log_of c.self.inside.row_states.items) (record { ticket = c.self.inside.next; input = c.args.input; row = c.args.row }) c.self.inside.waiting c.self.invariant.2),
      routes_kept (arc_value c.self.inside.spec).classes c.self.inside.row_states.items c.self.inside.routes c.args.input c.index_mut.result.now c.store.new.state c.self.invariant.3 (omega (arith, there, (all-row_states (join_data (arc_value c.self.inside.spec) c.self.inside.schemes c.self.inside.certs) c.self.inside.limit c.self.inside.next c.self.inside.done c.self.inside.row_states.items c.self.inside.punct_stores.items c.self.inside.pending c.self.inside.taken.items c.self.invariant.0))) c.index_mut.ensures.value (ap (λ (s : StateView). s.columns) c.in_ok-store.ensures.state),
      routes_stay (join_data (arc_value c.self.inside.spec) c.self.inside.schemes c.self.inside.certs) c.self.inside.row_states.items (set c.self.inside.row_states.items c.args.input c.store.new.state) (inputs (join_data (arc_value c.self.inside.spec) c.self.inside.schemes c.self.inside.certs)) c.self.inside.rechecks.items (columns_set c.self.inside.row_states.items c.args.input c.index_mut.result.now c.store.new.state c.index_mut.ensures.value (ap (λ (s : StateView). s.columns) c.in_ok-store.ensures.state)) c.self.invariant.4,
      c.self.invariant.5,
    )

pub returns-clause-keeps : goal.returns-clause-keeps
returns-clause-keeps c =
    let lt : c.args.input < inputs c.args.self.now.spec = c.requires.fits.0 in
    let there : c.args.input < inputs (join_data (arc_value c.self.inside.spec) c.self.inside.schemes c.self.inside.certs) = rw (← c.self.view_is) at lt in
    let fits : length c.args.row ≡ arity c.args.self.now.spec c.args.input = c.requires.fits.1 in
    let long : length c.args.row ≡ arity (join_data (arc_value c.self.inside.spec) c.self.inside.schemes c.self.inside.certs) c.args.input = rw (← c.self.view_is) at fits in
    rw (← c.self.view_is)
    (tuple-keeps c.self.inside.node (join_data (arc_value c.self.inside.spec) c.self.inside.schemes c.self.inside.certs) c.self.inside.limit c.self.inside.next c.self.inside.done (log_of c.self.inside.row_states.items) _ (puncts_of c.self.inside.punct_stores.items) c.self.inside.waiting.puncts c.self.inside.taken.items c.args.input c.args.row _ c.self.invariant.0.ordered.within refl
    (log-more (join_data (arc_value c.self.inside.spec) c.self.inside.schemes c.self.inside.certs) c.self.inside.limit c.self.inside.next c.self.inside.done c.self.inside.row_states.items c.self.inside.punct_stores.items c.self.inside.pending c.self.inside.taken.items c.self.invariant.0 c.args.input c.args.row _ c.store.new.state (λ e. false≢true (c.if-is_full.ensures.1 e)) there long
    (state_is c.self.inside.row_states.items c.args.input _ (inputs (join_data (arc_value c.self.inside.spec) c.self.inside.schemes c.self.inside.certs)) (all-row_states (join_data (arc_value c.self.inside.spec) c.self.inside.schemes c.self.inside.certs) c.self.inside.limit c.self.inside.next c.self.inside.done c.self.inside.row_states.items c.self.inside.punct_stores.items c.self.inside.pending c.self.inside.taken.items c.self.invariant.0) there c.index_mut.ensures.value) (rw (← c.in_ok-row.ensures) c.in_ok-store.ensures.state)))

pub returns-clause-stands : goal.returns-clause-stands
returns-clause-stands c =
    let few : 0 < inputs c.args.self.now.spec = rw (← c.self.view_is) (omega (arith, several (join_data (arc_value c.self.inside.spec) c.self.inside.schemes c.self.inside.certs) c.self.inside.limit c.self.inside.next c.self.inside.done (log_of c.self.inside.row_states.items) (tuples_in 0 c.self.inside.row_states.items) c.self.inside.taken.items c.self.invariant.0.ordered)) in
    stands-tuple c.args.self.now _ c.args.input c.args.row (c.standing.ensures c.args.self.now.spec few) c.requires.fits.0 c.requires.fits.1 (returns-clause-keeps c)
