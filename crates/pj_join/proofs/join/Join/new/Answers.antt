use Rattle.std.proofs.Common.{◌∙◌, [], List, map, length, ap, ap₂, arith, sym, subst}
use Rattle.pj_shape.specs.declared.columns.Column.{Column}
use Rattle.pj_shape.specs.Sound.{arities_of}
use Rattle.pj_shape.specs.declared.joins.CertStep.{CertStep}
use Rattle.pj_events.specs.Join.{AreCertified, ClassCol, PunctAt, TupleAt, upto_from}
use Rattle.pj_probe.specs.Routes.{AreProbeRoutes, columns_of}
use Rattle.pj_state.specs.States.{StateView}
use Rattle.pj_join.specs.Insides.{lowest, made_with, seen}
use Rattle.pj_recheck.specs.Judging.{join_data}
use Rattle.std.proofs.lemmas.List.{length-map}
use Rattle.pj_join.specs.Sides.{heard_of, puncts_of}
use Rattle.pj_join.specs.Watched.{AreWatched}
use Rattle.pj_join.proofs.Watched.{watched_start}
use Rattle.pj_join.proofs.Holding.{held_none}
use Rattle.pj_join.proofs.Kept.{join-starts, log-none, puncts-none}
use Rattle.pj_join.proofs.join.Join.new.Goals as goal

pub routes_of-requires : goal.routes_of-requires
routes_of-requires c = omega (arith, c.requires.sound.few_inputs.1, length-map c.args.spec.inputs (λ schema. length schema))

pub purge_routes-requires-clause-certified : goal.purge_routes-requires-clause-certified
purge_routes-requires-clause-certified c = subst (λ (certs : List (List CertStep)). AreCertified (join_data c.args.spec c.args.schemes certs)) (sym c.as_slice-6.ensures) c.requires.certified

pub invariant_of-result : goal.invariant_of-result
invariant_of-result c = (
  rw (c.of.ensures, c.new-3.ensures.items, c.new-4.ensures.items, c.in_ok-new.ensures.ok)
      (join-starts (join_data c.args.spec c.args.schemes c.args.certs) c.args.limit c.in_ok-row_states.row_states.items c.in_ok-punct_stores.punct_stores.items c.in_ok-row_states.ensures.rows (c.in_ok-punct_stores.ensures.heard ∙ ap (λ (ss : List (List Column)). map (λ k. heard_of k []) (upto_from 0 (length ss))) c.as_slice.ensures) c.requires.sound c.requires.certified c.requires.limit.1 c.in_ok-row_states.ensures.shaped
      (c.in_ok-punct_stores.ensures.arities ∙ ap arities_of c.as_slice.ensures)),
  rw (c.new-4.ensures.items, c.in_ok-new.ensures.ok) (subst (λ (xs : List TupleAt). AreWatched (join_data c.args.spec c.args.schemes c.args.certs) 0 (lowest 0 0 xs []) xs (puncts_of c.in_ok-punct_stores.punct_stores.items) c.in_ok-due.due.items) (sym (log-none (join_data c.args.spec c.args.schemes c.args.certs) c.args.limit c.in_ok-row_states.row_states.items c.in_ok-punct_stores.punct_stores.items c.in_ok-row_states.ensures.rows (c.in_ok-punct_stores.ensures.heard ∙ ap (λ (ss : List (List Column)). map (λ k. heard_of k []) (upto_from 0 (length ss))) c.as_slice.ensures)))
      (subst (λ (ps : List PunctAt). AreWatched (join_data c.args.spec c.args.schemes c.args.certs) 0 (lowest 0 0 [] []) [] ps c.in_ok-due.due.items) (sym (puncts-none (join_data c.args.spec c.args.schemes c.args.certs) c.args.limit c.in_ok-row_states.row_states.items c.in_ok-punct_stores.punct_stores.items c.in_ok-row_states.ensures.rows (c.in_ok-punct_stores.ensures.heard ∙ ap (λ (ss : List (List Column)). map (λ k. heard_of k []) (upto_from 0 (length ss))) c.as_slice.ensures)))
      (watched_start (join_data c.args.spec c.args.schemes c.args.certs) c.in_ok-due.due.items (c.in_ok-due.ensures.count ∙ c.len.ensures ∙ sym (length-map c.args.spec.inputs (λ schema. length schema))) c.in_ok-due.ensures.none))),
  held_none 0 _ c.new-2.result c.new-2.ensures,
  rw (c.in_ok-new.ensures.ok) (subst (λ (classes : List (List ClassCol)). AreProbeRoutes classes (columns_of c.in_ok-row_states.row_states.items) c.in_ok-routes.routes) c.as_slice-2.ensures
      (subst (λ (row_states : List StateView). AreProbeRoutes c.as_slice-2.result.now (columns_of row_states) c.in_ok-routes.routes) c.as_slice-3.ensures.value c.in_ok-routes.ensures)),
  rw (c.in_ok-new.ensures.ok) (rw (c.as_slice-4.ensures, c.as_slice-5.ensures.value) at c.in_ok-rechecks.ensures),
  rw (c.in_ok-new.ensures.ok) (rw (c.as_slice-6.ensures) at c.in_ok-purges.ensures),
)

pub returns : goal.returns
returns c =
    rw (c.new-2.ensures, c.new-4.ensures.items, c.in_ok-new.ensures.ok)
    (ap₂ (λ (xs : List TupleAt) (ps : List PunctAt). seen (made_with c.args.node (join_data c.args.spec c.args.schemes c.args.certs) c.args.limit) 0 0 xs ps [] [])
    (log-none (join_data c.args.spec c.args.schemes c.args.certs) c.args.limit c.in_ok-row_states.row_states.items c.in_ok-punct_stores.punct_stores.items c.in_ok-row_states.ensures.rows (c.in_ok-punct_stores.ensures.heard ∙ ap (λ (ss : List (List Column)). map (λ k. heard_of k []) (upto_from 0 (length ss))) c.as_slice.ensures))
    (puncts-none (join_data c.args.spec c.args.schemes c.args.certs) c.args.limit c.in_ok-row_states.row_states.items c.in_ok-punct_stores.punct_stores.items c.in_ok-row_states.ensures.rows (c.in_ok-punct_stores.ensures.heard ∙ ap (λ (ss : List (List Column)). map (λ k. heard_of k []) (upto_from 0 (length ss))) c.as_slice.ensures)))
