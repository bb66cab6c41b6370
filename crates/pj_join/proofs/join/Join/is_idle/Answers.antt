use Rattle.std.proofs.Common.{ℕ, Bool, true, false, not, ◌≡◌, ◌<◌, ◌∙◌, [], List, ap, arith, refl, sym, subst}
use Rattle.std.specs.Arc.{arc_value}
use Rattle.pj_state.specs.declared.shared.Stored.{Stored}
use Rattle.pj_state.specs.States.{StateView}
use Rattle.pj_events.specs.Join.{In, inputs}
use Rattle.pj_join.specs.Insides.{lowest, made_with, seen}
use Rattle.pj_recheck.specs.Judging.{join_data}
use Rattle.pj_join.specs.Sides.{log_of, puncts_of}
use Rattle.pj_rows.specs.Tuples.{state_at}
use Rattle.pj_recheck.specs.declared.marks.DueRechecks.{DueRechecks}
use Rattle.pj_recheck.specs.Watching.{watches_at}
use Rattle.pj_waiting.proofs.Holding.{no_items}
use Rattle.pj_join.proofs.Kept.{all-row_states}
use Rattle.pj_rows.proofs.States.{state_is}
use Rattle.pj_join.proofs.Watched.{none_off, watch_is}
use Rattle.pj_join.proofs.join.Join.is_idle.Goals as goal

pub index-requires : goal.index-requires
index-requires c =
    let lt : c.args.input < inputs c.args.self.now.spec = c.requires.there in
    let there : c.args.input < inputs (join_data (arc_value c.self.inside.spec) c.self.inside.schemes c.self.inside.certs) = rw (← c.self.view_is) at lt in
    omega (arith, there, all-row_states (join_data (arc_value c.self.inside.spec) c.self.inside.schemes c.self.inside.certs) c.self.inside.limit c.self.inside.next c.self.inside.done c.self.inside.row_states.items c.self.inside.punct_stores.items c.self.inside.pending c.self.inside.taken.items c.self.invariant.0, c.self.inside.row_states.ok)

pub index-due-requires : goal.index-due-requires
index-due-requires c =
    let lt : c.args.input < inputs c.args.self.now.spec = c.requires.there in
    let there : c.args.input < inputs (join_data (arc_value c.self.inside.spec) c.self.inside.schemes c.self.inside.certs) = rw (← c.self.view_is) at lt in
    omega (arith, there, c.self.invariant.1.count, c.self.inside.due.ok)

turned : (b : Bool) → not b ≡ true → b ≡ false
turned true e = sym e
turned false e = refl

pub returns-then-len-eq0 : goal.returns-then-len-eq0
returns-then-len-eq0 c = λ t.
    let lt : c.args.input < inputs c.args.self.now.spec = c.requires.there in
    let there : c.args.input < inputs (join_data (arc_value c.self.inside.spec) c.self.inside.schemes c.self.inside.certs) = rw (← c.self.view_is) at lt in
    let few : c.args.input < Rattle.std.proofs.Common.length c.self.inside.due.items = omega (arith, there, c.self.invariant.1.count) in
    let watch : c.index-due.result.now ≡ watches_at c.self.inside.due.items c.args.input = watch_is c.self.inside.due.items c.args.input c.index-due.result.now few c.index-due.ensures in
    let state : c.index.result.now ≡ state_at c.self.inside.row_states.items c.args.input = state_is c.self.inside.row_states.items c.args.input c.index.result.now (inputs (join_data (arc_value c.self.inside.spec) c.self.inside.schemes c.self.inside.certs)) (all-row_states (join_data (arc_value c.self.inside.spec) c.self.inside.schemes c.self.inside.certs) c.self.inside.limit c.self.inside.next c.self.inside.done c.self.inside.row_states.items c.self.inside.punct_stores.items c.self.inside.pending c.self.inside.taken.items c.self.invariant.0) there c.index.ensures in
    let old : (s : Stored) → In s c.index.result.now.rows → s.ticket < c.index-due.result.now.from = c.has_young.ensures (turned c.has_young.result t) in
    rw (← c.self.view_is)
    (none_off (join_data (arc_value c.self.inside.spec) c.self.inside.schemes c.self.inside.certs) c.self.inside.limit c.self.inside.next c.self.inside.done c.self.inside.row_states.items c.self.inside.punct_stores.items c.self.inside.pending c.self.inside.taken.items c.self.invariant.0 (seen (made_with c.self.inside.node (join_data (arc_value c.self.inside.spec) c.self.inside.schemes c.self.inside.certs) c.self.inside.limit) c.self.inside.next c.self.inside.done (log_of c.self.inside.row_states.items) (puncts_of c.self.inside.punct_stores.items) c.self.inside.waiting.puncts c.self.inside.taken.items).kept refl refl (lowest c.self.inside.next c.self.inside.done (log_of c.self.inside.row_states.items) c.self.inside.taken.items) refl c.args.input there c.self.inside.node c.self.inside.waiting.puncts c.self.inside.due.items refl c.self.invariant.1
    (sym (ap (λ (w : DueRechecks). w.marked) watch) ∙ no_items c.index-due.result.now.marked (omega (arith, c.if-len-eq0.true, c.len.ensures)))
    (subst (λ (w : DueRechecks). (s : Stored) → In s (state_at c.self.inside.row_states.items c.args.input).rows → s.ticket < w.from) watch
    (subst (λ (v : StateView). (s : Stored) → In s v.rows → s.ticket < c.index-due.result.now.from) state old)))
