use Rattle.std.proofs.Common.{◌<◌, ◌+◌, ◌∙◌, ◌++◌, [], List, ap, ap₂, arith, map, refl, sym, subst}
use Rattle.std.proofs.lemmas.Bool.{false≢true}
use Rattle.std.specs.Arc.{arc_value}
use Rattle.pj_puncts.specs.Stores.{IsAbove, Store}
use Rattle.pj_shape.specs.declared.joins.JoinSpec.{JoinSpec}
use Rattle.pj_events.specs.Join.{PunctAt, inputs}
use Rattle.pj_join.specs.Insides.{IsJoin, inside, lowest, made_with, seen}
use Rattle.pj_join.specs.Purges.{ArePurgeRoutes}
use Rattle.pj_join.proofs.Lowest.{lowest_punct}
use Rattle.pj_recheck.specs.Judging.{join_data}
use Rattle.pj_waiting.specs.Letting.{going_at_once}
use Rattle.pj_probe.specs.Routes.{AreProbeRoutes, columns_of}
use Rattle.pj_rows.specs.Tuples.{AreWide, tuple_in, tuples_in}
use Rattle.pj_join.specs.Sides.{log_of, puncts_of}
use Rattle.pj_rows.specs.Finding.{still_held}
use Rattle.pj_join.proofs.Standing.{stands-punct}
use Rattle.pj_rows.proofs.States.{same-at, state_is}
use Rattle.pj_join.proofs.Calling.{several}
use Rattle.pj_join.proofs.Sweeps.{hands-punct, punct_out, punct_view}
use Rattle.pj_join.proofs.Swept.{held-at-first}
use Rattle.pj_join.proofs.Kept.{above-all, all-row_states, all-punct_stores, join-hears, on-err, puncts-more, same-punct_stores, side-is, wide}
use Rattle.pj_state.specs.States.{StateView}
use Rattle.pj_join.specs.Held.{AreHeld}
use Rattle.pj_join.specs.Watched.{AreWatched}
use Rattle.pj_join.proofs.Holding.{held_same, hears}
use Rattle.pj_join.proofs.Watched.{covered_there, watched_fewer, watched_punct}
use Rattle.pj_recheck.specs.Recheck.{AreRoutes}
use Rattle.pj_recheck.proofs.Rechecked.{fit_now, left_beside}
use Rattle.pj_join.proofs.join.Join.hear_punct.Goals as goal

pub index-requires : goal.index-requires
index-requires c =
    let lt : c.args.input < inputs c.args.self.now.spec = c.requires.fits.0 in
    let there : c.args.input < inputs (join_data (arc_value c.self.inside.spec) c.self.inside.schemes c.self.inside.certs) = rw (← c.self.view_is) at lt in
    omega (arith, there, c.self.invariant.4.long, c.self.inside.rechecks.ok)

pub mark_added-requires-clause-fit : goal.mark_added-requires-clause-fit
mark_added-requires-clause-fit c =
    let lt : c.args.input < inputs c.args.self.now.spec = c.requires.fits.0 in
    let there : c.args.input < inputs (join_data (arc_value c.self.inside.spec) c.self.inside.schemes c.self.inside.certs) = rw (← c.self.view_is) at lt in
    fit_now (join_data (arc_value c.self.inside.spec) c.self.inside.schemes c.self.inside.certs) c.self.inside.row_states.items c.as_slice-2.result.now c.self.inside.rechecks.items c.args.input c.index.result.now c.as_slice.result.now c.self.invariant.4 there c.index.ensures c.as_slice.ensures c.as_slice-2.ensures.value

pub index-requires-2 : goal.index-requires-2
index-requires-2 c =
    let lt : c.args.input < inputs c.args.self.now.spec = c.requires.fits.0 in
    let there : c.args.input < inputs (join_data (arc_value c.self.inside.spec) c.self.inside.schemes c.self.inside.certs) = rw (← c.self.view_is) at lt in
    omega (arith, there, all-punct_stores (join_data (arc_value c.self.inside.spec) c.self.inside.schemes c.self.inside.certs) c.self.inside.limit c.self.inside.next c.self.inside.done c.self.inside.row_states.items c.self.inside.punct_stores.items c.self.inside.pending c.self.inside.taken.items c.self.invariant.0, c.self.inside.punct_stores.ok)

pub index-requires-3 : goal.index-requires-3
index-requires-3 c =
    let lt : c.args.input < inputs c.args.self.now.spec = c.requires.fits.0 in
    let there : c.args.input < inputs (join_data (arc_value c.self.inside.spec) c.self.inside.schemes c.self.inside.certs) = rw (← c.self.view_is) at lt in
    omega (arith, there, all-row_states (join_data (arc_value c.self.inside.spec) c.self.inside.schemes c.self.inside.certs) c.self.inside.limit c.self.inside.next c.self.inside.done c.self.inside.row_states.items c.self.inside.punct_stores.items c.self.inside.pending c.self.inside.taken.items c.self.invariant.0, c.self.inside.row_states.ok)

pub receive-requires-clause-rises : goal.receive-requires-clause-rises
receive-requires-clause-rises c =
    let lt : c.args.input < inputs c.args.self.now.spec = c.requires.fits.0 in
    let there : c.args.input < inputs (join_data (arc_value c.self.inside.spec) c.self.inside.schemes c.self.inside.certs) = rw (← c.self.view_is) at lt in
    subst (λ (s : Store). IsAbove c.self.inside.next s.kept) (sym c.index_mut.ensures.value) (above-all (join_data (arc_value c.self.inside.spec) c.self.inside.schemes c.self.inside.certs) c.self.inside.limit c.self.inside.next c.self.inside.done c.self.inside.row_states.items c.self.inside.punct_stores.items c.self.inside.pending c.self.inside.taken.items c.self.invariant.0 c.args.input c.index_mut.result.now there)

pub mark_added-requires-clause-wide : goal.mark_added-requires-clause-wide
mark_added-requires-clause-wide c = subst (λ (ss : List StateView). AreWide ss) (sym c.as_slice-2.ensures.value) (wide (join_data (arc_value c.self.inside.spec) c.self.inside.schemes c.self.inside.certs) c.self.inside.limit c.self.inside.next c.self.inside.done c.self.inside.row_states.items c.self.inside.punct_stores.items c.self.inside.pending c.self.inside.taken.items c.self.invariant.0)

pub invariant_of-self : goal.invariant_of-self
invariant_of-self c = (c.self.invariant.0, (watched_fewer (join_data (arc_value c.self.inside.spec) c.self.inside.schemes c.self.inside.certs) c.self.inside.next (lowest c.self.inside.next c.self.inside.done (log_of c.self.inside.row_states.items) c.self.inside.taken.items) (log_of c.self.inside.row_states.items) (puncts_of c.self.inside.punct_stores.items) c.self.inside.due.items c.mark_added.new.due.items c.mark_added.ensures.fewer c.self.invariant.1), c.self.invariant.2, c.self.invariant.3, c.self.invariant.4, c.self.invariant.5)

pub invariant_of-self-in_err-receive : goal.invariant_of-self-in_err-receive
invariant_of-self-in_err-receive c =
    let lt : c.args.input < inputs c.args.self.now.spec = c.requires.fits.0 in
    let there : c.args.input < inputs (join_data (arc_value c.self.inside.spec) c.self.inside.schemes c.self.inside.certs) = rw (← c.self.view_is) at lt in
    subst (λ (ss : List Store). IsJoin (join_data (arc_value c.self.inside.spec) c.self.inside.schemes c.self.inside.certs) c.self.inside.limit (inside c.self.inside.next c.self.inside.done c.self.inside.row_states.items ss c.self.inside.pending c.self.inside.taken.items) × AreWatched (join_data (arc_value c.self.inside.spec) c.self.inside.schemes c.self.inside.certs) c.self.inside.next (lowest c.self.inside.next c.self.inside.done (log_of c.self.inside.row_states.items) c.self.inside.taken.items) (log_of c.self.inside.row_states.items) (puncts_of ss) c.mark_added.new.due.items × AreHeld c.self.inside.next (log_of c.self.inside.row_states.items) c.receive.new.waiting × AreProbeRoutes (arc_value c.self.inside.spec).classes (columns_of c.self.inside.row_states.items) c.self.inside.routes × AreRoutes (join_data (arc_value c.self.inside.spec) c.self.inside.schemes c.self.inside.certs) c.self.inside.row_states.items (inputs (join_data (arc_value c.self.inside.spec) c.self.inside.schemes c.self.inside.certs)) c.self.inside.rechecks.items × ArePurgeRoutes (join_data (arc_value c.self.inside.spec) c.self.inside.schemes c.self.inside.certs) (inputs (join_data (arc_value c.self.inside.spec) c.self.inside.schemes c.self.inside.certs)) c.self.inside.purges.items)
    (sym (same-punct_stores (join_data (arc_value c.self.inside.spec) c.self.inside.schemes c.self.inside.certs) c.self.inside.limit c.self.inside.next c.self.inside.done c.self.inside.row_states.items c.self.inside.punct_stores.items c.self.inside.pending c.self.inside.taken.items c.self.invariant.0 c.args.input c.index_mut.result.now c.receive.new.store there c.index_mut.ensures.value c.in_err-receive.ensures.arity c.in_err-receive.ensures.err.0)) (c.self.invariant.0, (watched_fewer (join_data (arc_value c.self.inside.spec) c.self.inside.schemes c.self.inside.certs) c.self.inside.next (lowest c.self.inside.next c.self.inside.done (log_of c.self.inside.row_states.items) c.self.inside.taken.items) (log_of c.self.inside.row_states.items) (puncts_of c.self.inside.punct_stores.items) c.self.inside.due.items c.mark_added.new.due.items c.mark_added.ensures.fewer c.self.invariant.1), held_same c.self.inside.next (log_of c.self.inside.row_states.items) c.self.inside.waiting c.receive.new.waiting c.in_err-receive.ensures.err.1 c.in_err-receive.ensures.keeps c.self.invariant.2, c.self.invariant.3, c.self.invariant.4, c.self.invariant.5)

pub invariant_of-self-2 : goal.invariant_of-self-2
invariant_of-self-2 c =
    let lt : c.args.input < inputs c.args.self.now.spec = c.requires.fits.0 in
    let there : c.args.input < inputs (join_data (arc_value c.self.inside.spec) c.self.inside.schemes c.self.inside.certs) = rw (← c.self.view_is) at lt in (
      join-hears (join_data (arc_value c.self.inside.spec) c.self.inside.schemes c.self.inside.certs) c.self.inside.limit c.self.inside.next c.self.inside.done c.self.inside.row_states.items c.self.inside.punct_stores.items c.self.inside.pending c.self.inside.taken.items c.self.invariant.0 c.args.input c.args.punct c.index_mut.result.now c.receive.new.store there (λ d. c.index_mut.ensures.value ∙ same-at c.self.inside.punct_stores.items c.args.input c.index_mut.result.now d (omega (arith, there, all-punct_stores (join_data (arc_value c.self.inside.spec) c.self.inside.schemes c.self.inside.certs) c.self.inside.limit c.self.inside.next c.self.inside.done c.self.inside.row_states.items c.self.inside.punct_stores.items c.self.inside.pending c.self.inside.taken.items c.self.invariant.0))) c.in_ok-receive.ensures.arity c.in_ok-receive.ensures.store (λ e. false≢true (c.if-is_full.ensures.1 e)),
      subst (λ (ps : List PunctAt). AreWatched (join_data (arc_value c.self.inside.spec) c.self.inside.schemes c.self.inside.certs) (c.self.inside.next + 1) (lowest (c.self.inside.next + 1) c.self.inside.done (log_of c.self.inside.row_states.items) c.self.inside.taken.items) (log_of c.self.inside.row_states.items) ps c.mark_added.new.due.items) (sym (puncts-more (join_data (arc_value c.self.inside.spec) c.self.inside.schemes c.self.inside.certs) c.self.inside.limit c.self.inside.next c.self.inside.done c.self.inside.row_states.items c.self.inside.punct_stores.items c.self.inside.pending c.self.inside.taken.items c.self.invariant.0 c.args.input c.args.punct c.index_mut.result.now c.receive.new.store there (λ d. c.index_mut.ensures.value ∙ same-at c.self.inside.punct_stores.items c.args.input c.index_mut.result.now d (omega (arith, there, all-punct_stores (join_data (arc_value c.self.inside.spec) c.self.inside.schemes c.self.inside.certs) c.self.inside.limit c.self.inside.next c.self.inside.done c.self.inside.row_states.items c.self.inside.punct_stores.items c.self.inside.pending c.self.inside.taken.items c.self.invariant.0))) c.in_ok-receive.ensures.arity c.in_ok-receive.ensures.store))
          (watched_punct (join_data (arc_value c.self.inside.spec) c.self.inside.schemes c.self.inside.certs) c.self.inside.limit c.self.inside.next c.self.inside.done c.self.inside.row_states.items c.self.inside.punct_stores.items c.self.inside.pending c.self.inside.taken.items c.self.invariant.0 c.self.inside.due.items c.mark_added.new.due.items (lowest c.self.inside.next c.self.inside.done (log_of c.self.inside.row_states.items) c.self.inside.taken.items) (lowest (c.self.inside.next + 1) c.self.inside.done (log_of c.self.inside.row_states.items) c.self.inside.taken.items) (record { input = c.args.input; patterns = c.args.punct }) c.self.inside.next c.mark_added.ensures.fewer (left_beside (join_data (arc_value c.self.inside.spec) c.self.inside.schemes c.self.inside.certs) c.self.inside.row_states.items c.as_slice-2.result.now c.self.inside.rechecks.items (record { input = c.args.input; patterns = c.args.punct }) c.index.result.now c.as_slice.result.now c.self.inside.due.items c.mark_added.new.due.items c.index-2.result.now.kept (puncts_of c.self.inside.punct_stores.items) c.self.invariant.4 there c.index.ensures c.as_slice.ensures c.as_slice-2.ensures.value c.self.invariant.1.count c.mark_added.ensures.fewer c.in_ok-mark_added.ensures.left (covered_there (join_data (arc_value c.self.inside.spec) c.self.inside.schemes c.self.inside.certs) c.self.inside.limit c.self.inside.next c.self.inside.done c.self.inside.row_states.items c.self.inside.punct_stores.items c.self.inside.pending c.self.inside.taken.items c.self.invariant.0 c.args.input c.index-2.result.now there c.index-2.ensures)) (lowest_punct c.self.inside.next c.self.inside.done (log_of c.self.inside.row_states.items) c.self.inside.taken.items) c.self.invariant.1),
      hears c.self.inside.next (log_of c.self.inside.row_states.items) c.index-3.result.now.rows c.args.input c.self.inside.waiting c.receive.new.waiting (record { ticket = c.self.inside.next; input = c.args.input; patterns = c.args.punct })
          (ap (λ (s : StateView). map (tuple_in c.args.input) s.rows) (state_is c.self.inside.row_states.items c.args.input c.index-3.result.now (inputs (join_data (arc_value c.self.inside.spec) c.self.inside.schemes c.self.inside.certs)) (all-row_states (join_data (arc_value c.self.inside.spec) c.self.inside.schemes c.self.inside.certs) c.self.inside.limit c.self.inside.next c.self.inside.done c.self.inside.row_states.items c.self.inside.punct_stores.items c.self.inside.pending c.self.inside.taken.items c.self.invariant.0) there c.index-3.ensures) ∙ side-is (join_data (arc_value c.self.inside.spec) c.self.inside.schemes c.self.inside.certs) c.self.inside.limit c.self.inside.next c.self.inside.done c.self.inside.row_states.items c.self.inside.punct_stores.items c.self.inside.pending c.self.inside.taken.items c.self.invariant.0 c.args.input there)
          refl refl c.in_ok-receive.ensures.waiting c.in_ok-receive.ensures.keeps c.in_ok-receive.ensures.listed c.self.invariant.2,
      c.self.invariant.3,
      c.self.invariant.4,
      c.self.invariant.5,
    )

pub returns-clause-keeps : goal.returns-clause-keeps
returns-clause-keeps c =
    let lt : c.args.input < inputs c.args.self.now.spec = c.requires.fits.0 in
    let there : c.args.input < inputs (join_data (arc_value c.self.inside.spec) c.self.inside.schemes c.self.inside.certs) = rw (← c.self.view_is) at lt in
    rw (← c.self.view_is)
    (punct_view c.self.inside.node (join_data (arc_value c.self.inside.spec) c.self.inside.schemes c.self.inside.certs) c.self.inside.limit c.self.inside.next c.self.inside.done (log_of c.self.inside.row_states.items) (puncts_of c.self.inside.punct_stores.items) _ c.self.inside.waiting.puncts c.receive.new.waiting.puncts c.self.inside.taken.items _ (record { ticket = c.self.inside.next; input = c.args.input; patterns = c.args.punct })
    (held-at-first (join_data (arc_value c.self.inside.spec) c.self.inside.schemes c.self.inside.certs) c.self.inside.limit c.self.inside.next c.self.inside.done c.self.inside.row_states.items c.self.inside.punct_stores.items c.self.inside.pending c.self.inside.taken.items c.self.invariant.0 c.index-3.result.now (record { ticket = c.self.inside.next; input = c.args.input; patterns = c.args.punct }) there (state_is c.self.inside.row_states.items c.args.input c.index-3.result.now (inputs (join_data (arc_value c.self.inside.spec) c.self.inside.schemes c.self.inside.certs)) (all-row_states (join_data (arc_value c.self.inside.spec) c.self.inside.schemes c.self.inside.certs) c.self.inside.limit c.self.inside.next c.self.inside.done c.self.inside.row_states.items c.self.inside.punct_stores.items c.self.inside.pending c.self.inside.taken.items c.self.invariant.0) there c.index-3.ensures)) refl
    (puncts-more (join_data (arc_value c.self.inside.spec) c.self.inside.schemes c.self.inside.certs) c.self.inside.limit c.self.inside.next c.self.inside.done c.self.inside.row_states.items c.self.inside.punct_stores.items c.self.inside.pending c.self.inside.taken.items c.self.invariant.0 c.args.input c.args.punct c.index_mut.result.now c.receive.new.store there (λ d. c.index_mut.ensures.value ∙ same-at c.self.inside.punct_stores.items c.args.input c.index_mut.result.now d (omega (arith, there, all-punct_stores (join_data (arc_value c.self.inside.spec) c.self.inside.schemes c.self.inside.certs) c.self.inside.limit c.self.inside.next c.self.inside.done c.self.inside.row_states.items c.self.inside.punct_stores.items c.self.inside.pending c.self.inside.taken.items c.self.invariant.0))) c.in_ok-receive.ensures.arity c.in_ok-receive.ensures.store) c.in_ok-receive.ensures.waiting)

pub returns-clause-stands : goal.returns-clause-stands
returns-clause-stands c =
    let few : 0 < inputs c.args.self.now.spec = rw (← c.self.view_is) (omega (arith, several (join_data (arc_value c.self.inside.spec) c.self.inside.schemes c.self.inside.certs) c.self.inside.limit c.self.inside.next c.self.inside.done (log_of c.self.inside.row_states.items) (tuples_in 0 c.self.inside.row_states.items) c.self.inside.taken.items c.self.invariant.0.ordered)) in
    stands-punct c.args.self.now _ c.args.input c.args.punct (c.standing.ensures c.args.self.now.spec few) c.requires.fits.0 c.requires.fits.1 (returns-clause-keeps c)

pub returns-clause-out : goal.returns-clause-out
returns-clause-out c =
    let lt : c.args.input < inputs c.args.self.now.spec = c.requires.fits.0 in
    let there : c.args.input < inputs (join_data (arc_value c.self.inside.spec) c.self.inside.schemes c.self.inside.certs) = rw (← c.self.view_is) at lt in
    rw (← c.self.view_is)
    (punct_out (seen (made_with c.self.inside.node (join_data (arc_value c.self.inside.spec) c.self.inside.schemes c.self.inside.certs) c.self.inside.limit) c.self.inside.next c.self.inside.done (log_of c.self.inside.row_states.items) (puncts_of c.self.inside.punct_stores.items) c.self.inside.waiting.puncts c.self.inside.taken.items) c.args.input c.args.punct
    (still_held c.index-3.result.now.rows [] c.args.punct) (record { ticket = c.self.inside.next; input = c.args.input; patterns = c.args.punct }) c.args.out.now c.receive.new.out (held-at-first (join_data (arc_value c.self.inside.spec) c.self.inside.schemes c.self.inside.certs) c.self.inside.limit c.self.inside.next c.self.inside.done c.self.inside.row_states.items c.self.inside.punct_stores.items c.self.inside.pending c.self.inside.taken.items c.self.invariant.0 c.index-3.result.now (record { ticket = c.self.inside.next; input = c.args.input; patterns = c.args.punct }) there (state_is c.self.inside.row_states.items c.args.input c.index-3.result.now (inputs (join_data (arc_value c.self.inside.spec) c.self.inside.schemes c.self.inside.certs)) (all-row_states (join_data (arc_value c.self.inside.spec) c.self.inside.schemes c.self.inside.certs) c.self.inside.limit c.self.inside.next c.self.inside.done c.self.inside.row_states.items c.self.inside.punct_stores.items c.self.inside.pending c.self.inside.taken.items c.self.invariant.0) there c.index-3.ensures)) refl
    (c.in_ok-receive.ensures.out ∙ ap (λ schemas. c.args.out.now ++ going_at_once schemas (still_held c.index-3.result.now.rows [] c.args.punct) (record { ticket = c.self.inside.next; input = c.args.input; patterns = c.args.punct })) (c.as_slice-3.ensures ∙ ap (λ (s : JoinSpec). s.inputs) c.deref.ensures)))

pub returns-clause-hands : goal.returns-clause-hands
returns-clause-hands c = hands-punct c.args.self.now c.args.input c.args.punct

pub returns-in_err-receive-clause-refused : goal.returns-in_err-receive-clause-refused
returns-in_err-receive-clause-refused c =
    let lt : c.args.input < inputs c.args.self.now.spec = c.requires.fits.0 in
    let there : c.args.input < inputs (join_data (arc_value c.self.inside.spec) c.self.inside.schemes c.self.inside.certs) = rw (← c.self.view_is) at lt in
    on-err c.from_residual-in_err-receive.result (
      rw (← c.self.view_is)
          (ap₂ (λ (ss : List Store) (ws : List PunctAt). seen (made_with c.self.inside.node (join_data (arc_value c.self.inside.spec) c.self.inside.schemes c.self.inside.certs) c.self.inside.limit) c.self.inside.next c.self.inside.done (log_of c.self.inside.row_states.items) (puncts_of ss) ws c.self.inside.taken.items)
          (same-punct_stores (join_data (arc_value c.self.inside.spec) c.self.inside.schemes c.self.inside.certs) c.self.inside.limit c.self.inside.next c.self.inside.done c.self.inside.row_states.items c.self.inside.punct_stores.items c.self.inside.pending c.self.inside.taken.items c.self.invariant.0 c.args.input c.index_mut.result.now c.receive.new.store there c.index_mut.ensures.value c.in_err-receive.ensures.arity c.in_err-receive.ensures.err.0) c.in_err-receive.ensures.err.1),
      c.in_err-receive.ensures.err.2,
    )
