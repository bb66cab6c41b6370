use Rattle.std.proofs.Common.{◌≡◌, ◌<◌, ◌∙◌, ◌++◌, List, ap, arith, refl, sym, subst}
use Rattle.pj_join.specs.Held.{AreHeld}
use Rattle.pj_waiting.specs.Holding.{AreHeldBy, StayHeld, tickets_where}
use Rattle.pj_join.specs.Watched.{AreWatched}
use Rattle.pj_recheck.specs.Watching.{watches_at}
use Rattle.pj_join.proofs.Holding.{held_behind, held_rows}
use Rattle.pj_join.proofs.Watched.{none_ripe, open_but, same_looked, same_none, watch_is}
use Rattle.std.specs.Arc.{arc_value}
use Rattle.pj_shape.specs.declared.joins.JoinSpec.{JoinSpec}
use Rattle.pj_state.specs.States.{StateView}
use Rattle.pj_events.specs.Join.{inputs, steps_of}
use Rattle.pj_events.specs.KeptState.{kept_low}
use Rattle.pj_join.specs.Insides.{made_with, seen}
use Rattle.pj_recheck.specs.Judging.{join_data, ripe_rows, ripe_tickets}
use Rattle.pj_waiting.specs.Letting.{letting_go, lets_go}
use Rattle.pj_join.specs.Sides.{log_of, puncts_of}
use Rattle.pj_rows.specs.Tuples.{state_at}
use Rattle.pj_cover.specs.Routes.{steps_in}
use Rattle.pj_join.proofs.Judged.{may_judge_by}
use Rattle.pj_join.proofs.Purged.{purge_here}
use Rattle.pj_join.proofs.Kept.{side-is}
use Rattle.pj_join.proofs.Swept.{goes-are, going-are, gone-are, has-is, rows-are, same-judge}
use Rattle.pj_join.proofs.join.Join.judge.Goals as goal

pub invariant_of-judge : goal.invariant_of-judge
invariant_of-judge c =
    let lt : c.args.input < inputs c.args.self.now.spec = c.requires.there in
    let there : c.args.input < inputs (join_data (arc_value c.self.inside.spec) c.self.inside.schemes c.self.inside.certs) = rw (← c.self.view_is) at lt in
    let is = purge_here (join_data (arc_value c.self.inside.spec) c.self.inside.schemes c.self.inside.certs) c.self.inside.purges.items c.args.input c.index.result.now c.self.invariant.5 there c.index.ensures in
    may_judge_by (join_data (arc_value c.self.inside.spec) c.self.inside.schemes c.self.inside.certs) c.self.inside.limit c.self.inside.next c.self.inside.done c.self.inside.row_states.items c.self.inside.punct_stores.items c.self.inside.pending c.self.inside.taken.items c.self.invariant.0 c.args.input there c.deref.result.now c.index.result.now c.as_slice.result.now c.as_slice-2.result.now c.deref.ensures is c.as_slice.ensures.value c.as_slice-2.ensures.value

pub sweep-requires-clause-passed : goal.sweep-requires-clause-passed
sweep-requires-clause-passed c =
    let lt : c.args.input < inputs c.args.self.now.spec = c.requires.there in
    let there : c.args.input < inputs (join_data (arc_value c.self.inside.spec) c.self.inside.schemes c.self.inside.certs) = rw (← c.self.view_is) at lt in
    let kept : c.low-low.result ≡ kept_low c.args.self.now.kept = c.low-low.ensures.kept in
    let low : c.low-low.result ≡ kept_low (seen (made_with c.self.inside.node (join_data (arc_value c.self.inside.spec) c.self.inside.schemes c.self.inside.certs) c.self.inside.limit) c.self.inside.next c.self.inside.done (log_of c.self.inside.row_states.items) (puncts_of c.self.inside.punct_stores.items) c.self.inside.waiting.puncts c.self.inside.taken.items).kept = rw (← c.self.view_is) at kept in
    let cert : steps_in c.index.result.now ≡ steps_of (join_data (arc_value c.self.inside.spec) c.self.inside.schemes c.self.inside.certs) c.args.input = (purge_here (join_data (arc_value c.self.inside.spec) c.self.inside.schemes c.self.inside.certs) c.self.inside.purges.items c.args.input c.index.result.now c.self.invariant.5 there c.index.ensures).follows in
    let looks = same-judge (join_data (arc_value c.self.inside.spec) c.self.inside.schemes c.self.inside.certs) c.args.input c.low-low.result c.deref.result.now (steps_in c.index.result.now) c.as_slice.result.now c.self.inside.row_states.items c.as_slice-2.result.now c.self.inside.punct_stores.items c.deref.ensures cert c.as_slice.ensures.value c.as_slice-2.ensures.value in
    let due : c.index-2.result.now ≡ watches_at c.self.inside.due.items c.args.input = watch_is c.self.inside.due.items c.args.input c.index-2.result.now (omega (arith, there, c.self.invariant.1.count)) c.index-2.ensures in
    same_none _ _ _ _ looks due (none_ripe (join_data (arc_value c.self.inside.spec) c.self.inside.schemes c.self.inside.certs) c.self.inside.limit c.self.inside.next c.self.inside.done c.self.inside.row_states.items c.self.inside.punct_stores.items c.self.inside.pending c.self.inside.taken.items c.self.invariant.0 (seen (made_with c.self.inside.node (join_data (arc_value c.self.inside.spec) c.self.inside.schemes c.self.inside.certs) c.self.inside.limit) c.self.inside.next c.self.inside.done (log_of c.self.inside.row_states.items) (puncts_of c.self.inside.punct_stores.items) c.self.inside.waiting.puncts c.self.inside.taken.items).kept refl refl c.low-low.result low c.args.input there c.self.inside.due.items (subst (λ n. AreWatched (join_data (arc_value c.self.inside.spec) c.self.inside.schemes c.self.inside.certs) c.self.inside.next n (log_of c.self.inside.row_states.items) (puncts_of c.self.inside.punct_stores.items) c.self.inside.due.items) (sym low) c.self.invariant.1))

pub sweep-requires-clause-held : goal.sweep-requires-clause-held
sweep-requires-clause-held c =
    let lt : c.args.input < inputs c.args.self.now.spec = c.requires.there in
    let there : c.args.input < inputs (join_data (arc_value c.self.inside.spec) c.self.inside.schemes c.self.inside.certs) = rw (← c.self.view_is) at lt in
    let held : AreHeld c.args.self.now.kept.next c.args.self.now.kept.stored c.args.waiting.now = c.requires.held in
    let are : AreHeld c.self.inside.next (log_of c.self.inside.row_states.items) c.args.waiting.now = rw (← c.self.view_is) at held in
    subst (λ (ss : List StateView). AreHeldBy (state_at ss c.args.input).rows c.args.input c.args.waiting.now) (sym c.as_slice.ensures.value)
    (held_rows c.self.inside.next (log_of c.self.inside.row_states.items) (state_at c.self.inside.row_states.items c.args.input).rows c.args.input c.args.waiting.now
    (side-is (join_data (arc_value c.self.inside.spec) c.self.inside.schemes c.self.inside.certs) c.self.inside.limit c.self.inside.next c.self.inside.done c.self.inside.row_states.items c.self.inside.punct_stores.items c.self.inside.pending c.self.inside.taken.items c.self.invariant.0 c.args.input there) are)

pub index-requires : goal.index-requires
index-requires c =
    let lt : c.args.input < inputs c.args.self.now.spec = c.requires.there in
    let there : c.args.input < inputs (join_data (arc_value c.self.inside.spec) c.self.inside.schemes c.self.inside.certs) = rw (← c.self.view_is) at lt in
    omega (arith, there, c.self.invariant.5.count, c.self.inside.purges.ok)

pub index-requires-2 : goal.index-requires-2
index-requires-2 c =
    let lt : c.args.input < inputs c.args.self.now.spec = c.requires.there in
    let there : c.args.input < inputs (join_data (arc_value c.self.inside.spec) c.self.inside.schemes c.self.inside.certs) = rw (← c.self.view_is) at lt in
    omega (arith, there, c.self.invariant.1.count, c.self.inside.due.ok)

pub returns-clause-marked : goal.returns-clause-marked
returns-clause-marked c =
    let lt : c.args.input < inputs c.args.self.now.spec = c.requires.there in
    let there : c.args.input < inputs (join_data (arc_value c.self.inside.spec) c.self.inside.schemes c.self.inside.certs) = rw (← c.self.view_is) at lt in
    let kept : c.low-low.result ≡ kept_low c.args.self.now.kept = c.low-low.ensures.kept in
    let low : c.low-low.result ≡ kept_low (seen (made_with c.self.inside.node (join_data (arc_value c.self.inside.spec) c.self.inside.schemes c.self.inside.certs) c.self.inside.limit) c.self.inside.next c.self.inside.done (log_of c.self.inside.row_states.items) (puncts_of c.self.inside.punct_stores.items) c.self.inside.waiting.puncts c.self.inside.taken.items).kept = rw (← c.self.view_is) at kept in
    let cert : steps_in c.index.result.now ≡ steps_of (join_data (arc_value c.self.inside.spec) c.self.inside.schemes c.self.inside.certs) c.args.input = (purge_here (join_data (arc_value c.self.inside.spec) c.self.inside.schemes c.self.inside.certs) c.self.inside.purges.items c.args.input c.index.result.now c.self.invariant.5 there c.index.ensures).follows in
    let looks = same-judge (join_data (arc_value c.self.inside.spec) c.self.inside.schemes c.self.inside.certs) c.args.input c.low-low.result c.deref.result.now (steps_in c.index.result.now) c.as_slice.result.now c.self.inside.row_states.items c.as_slice-2.result.now c.self.inside.punct_stores.items c.deref.ensures cert c.as_slice.ensures.value c.as_slice-2.ensures.value in
    let due : c.index-2.result.now ≡ watches_at c.self.inside.due.items c.args.input = watch_is c.self.inside.due.items c.args.input c.index-2.result.now (omega (arith, there, c.self.invariant.1.count)) c.index-2.ensures in
    rw (← c.self.view_is) (open_but (join_data (arc_value c.self.inside.spec) c.self.inside.schemes c.self.inside.certs) c.self.inside.limit c.self.inside.next c.self.inside.done c.self.inside.row_states.items c.self.inside.punct_stores.items c.self.inside.pending c.self.inside.taken.items c.self.invariant.0 (seen (made_with c.self.inside.node (join_data (arc_value c.self.inside.spec) c.self.inside.schemes c.self.inside.certs) c.self.inside.limit) c.self.inside.next c.self.inside.done (log_of c.self.inside.row_states.items) (puncts_of c.self.inside.punct_stores.items) c.self.inside.waiting.puncts c.self.inside.taken.items).kept refl refl c.low-low.result low c.args.input there c.self.inside.node c.self.inside.waiting.puncts c.self.inside.due.items c.in_ok-left.left.marked refl (subst (λ n. AreWatched (join_data (arc_value c.self.inside.spec) c.self.inside.schemes c.self.inside.certs) c.self.inside.next n (log_of c.self.inside.row_states.items) (puncts_of c.self.inside.punct_stores.items) c.self.inside.due.items) (sym low) c.self.invariant.1) (same_looked c.in_ok-left.left.marked _ _ _ _ looks due c.in_ok-left.ensures.left))

pub returns-clause-certified : goal.returns-clause-certified
returns-clause-certified c = rw (← c.self.view_is) c.self.invariant.0.ordered.certified

pub returns-clause-gone : goal.returns-clause-gone
returns-clause-gone c =
    let lt : c.args.input < inputs c.args.self.now.spec = c.requires.there in
    let there : c.args.input < inputs (join_data (arc_value c.self.inside.spec) c.self.inside.schemes c.self.inside.certs) = rw (← c.self.view_is) at lt in
    let kept : c.low-low.result ≡ kept_low c.args.self.now.kept = c.low-low.ensures.kept in
    let low : c.low-low.result ≡ kept_low (seen (made_with c.self.inside.node (join_data (arc_value c.self.inside.spec) c.self.inside.schemes c.self.inside.certs) c.self.inside.limit) c.self.inside.next c.self.inside.done (log_of c.self.inside.row_states.items) (puncts_of c.self.inside.punct_stores.items) c.self.inside.waiting.puncts c.self.inside.taken.items).kept = rw (← c.self.view_is) at kept in
    let cert : steps_in c.index.result.now ≡ steps_of (join_data (arc_value c.self.inside.spec) c.self.inside.schemes c.self.inside.certs) c.args.input = (purge_here (join_data (arc_value c.self.inside.spec) c.self.inside.schemes c.self.inside.certs) c.self.inside.purges.items c.args.input c.index.result.now c.self.invariant.5 there c.index.ensures).follows in
    let looks = same-judge (join_data (arc_value c.self.inside.spec) c.self.inside.schemes c.self.inside.certs) c.args.input c.low-low.result c.deref.result.now (steps_in c.index.result.now) c.as_slice.result.now c.self.inside.row_states.items c.as_slice-2.result.now c.self.inside.punct_stores.items c.deref.ensures cert c.as_slice.ensures.value c.as_slice-2.ensures.value in
    rw (← c.self.view_is) (gone-are c.self.inside.node (join_data (arc_value c.self.inside.spec) c.self.inside.schemes c.self.inside.certs) c.self.inside.limit c.self.inside.next c.self.inside.done c.self.inside.row_states.items c.self.inside.punct_stores.items c.self.inside.pending c.self.inside.taken.items c.self.inside.waiting.puncts c.args.input c.self.invariant.0 there c.low-low.result c.in_ok-left.left.gone low (c.in_ok-left.ensures.gone ∙ ap ripe_tickets looks))

pub returns-clause-removed : goal.returns-clause-removed
returns-clause-removed c =
    let lt : c.args.input < inputs c.args.self.now.spec = c.requires.there in
    let there : c.args.input < inputs (join_data (arc_value c.self.inside.spec) c.self.inside.schemes c.self.inside.certs) = rw (← c.self.view_is) at lt in
    let kept : c.low-low.result ≡ kept_low c.args.self.now.kept = c.low-low.ensures.kept in
    let low : c.low-low.result ≡ kept_low (seen (made_with c.self.inside.node (join_data (arc_value c.self.inside.spec) c.self.inside.schemes c.self.inside.certs) c.self.inside.limit) c.self.inside.next c.self.inside.done (log_of c.self.inside.row_states.items) (puncts_of c.self.inside.punct_stores.items) c.self.inside.waiting.puncts c.self.inside.taken.items).kept = rw (← c.self.view_is) at kept in
    let cert : steps_in c.index.result.now ≡ steps_of (join_data (arc_value c.self.inside.spec) c.self.inside.schemes c.self.inside.certs) c.args.input = (purge_here (join_data (arc_value c.self.inside.spec) c.self.inside.schemes c.self.inside.certs) c.self.inside.purges.items c.args.input c.index.result.now c.self.invariant.5 there c.index.ensures).follows in
    let looks = same-judge (join_data (arc_value c.self.inside.spec) c.self.inside.schemes c.self.inside.certs) c.args.input c.low-low.result c.deref.result.now (steps_in c.index.result.now) c.as_slice.result.now c.self.inside.row_states.items c.as_slice-2.result.now c.self.inside.punct_stores.items c.deref.ensures cert c.as_slice.ensures.value c.as_slice-2.ensures.value in
    rw (← c.self.view_is) (rows-are c.self.inside.node (join_data (arc_value c.self.inside.spec) c.self.inside.schemes c.self.inside.certs) c.self.inside.limit c.self.inside.next c.self.inside.done c.self.inside.row_states.items c.self.inside.punct_stores.items c.self.inside.pending c.self.inside.taken.items c.self.inside.waiting.puncts c.args.input c.self.invariant.0 there c.low-low.result c.args.removed.now c.sweep.new.removed low (c.in_ok-left.ensures.removed ∙ ap (λ k. c.args.removed.now ++ ripe_rows k) looks))

pub returns-clause-goes : goal.returns-clause-goes
returns-clause-goes c =
    let lt : c.args.input < inputs c.args.self.now.spec = c.requires.there in
    let there : c.args.input < inputs (join_data (arc_value c.self.inside.spec) c.self.inside.schemes c.self.inside.certs) = rw (← c.self.view_is) at lt in
    let kept : c.low-low.result ≡ kept_low c.args.self.now.kept = c.low-low.ensures.kept in
    let low : c.low-low.result ≡ kept_low (seen (made_with c.self.inside.node (join_data (arc_value c.self.inside.spec) c.self.inside.schemes c.self.inside.certs) c.self.inside.limit) c.self.inside.next c.self.inside.done (log_of c.self.inside.row_states.items) (puncts_of c.self.inside.punct_stores.items) c.self.inside.waiting.puncts c.self.inside.taken.items).kept = rw (← c.self.view_is) at kept in
    let cert : steps_in c.index.result.now ≡ steps_of (join_data (arc_value c.self.inside.spec) c.self.inside.schemes c.self.inside.certs) c.args.input = (purge_here (join_data (arc_value c.self.inside.spec) c.self.inside.schemes c.self.inside.certs) c.self.inside.purges.items c.args.input c.index.result.now c.self.invariant.5 there c.index.ensures).follows in
    let looks = same-judge (join_data (arc_value c.self.inside.spec) c.self.inside.schemes c.self.inside.certs) c.args.input c.low-low.result c.deref.result.now (steps_in c.index.result.now) c.as_slice.result.now c.self.inside.row_states.items c.as_slice-2.result.now c.self.inside.punct_stores.items c.deref.ensures cert c.as_slice.ensures.value c.as_slice-2.ensures.value in
    rw (← c.self.view_is) (goes-are c.self.inside.node (join_data (arc_value c.self.inside.spec) c.self.inside.schemes c.self.inside.certs) c.self.inside.limit c.self.inside.next c.self.inside.done c.self.inside.row_states.items c.self.inside.punct_stores.items c.self.inside.pending c.self.inside.taken.items c.args.waiting.now.puncts c.args.input c.self.invariant.0 there c.in_ok-left.left.gone (gone-are c.self.inside.node (join_data (arc_value c.self.inside.spec) c.self.inside.schemes c.self.inside.certs) c.self.inside.limit c.self.inside.next c.self.inside.done c.self.inside.row_states.items c.self.inside.punct_stores.items c.self.inside.pending c.self.inside.taken.items c.args.waiting.now.puncts c.args.input c.self.invariant.0 there c.low-low.result c.in_ok-left.left.gone low (c.in_ok-left.ensures.gone ∙ ap ripe_tickets looks)) c.in_ok-left.left.waiting.goes
    (c.in_ok-left.ensures.goes ∙ ap (λ (ss : List StateView). tickets_where (lets_go (state_at ss c.args.input).rows c.in_ok-left.left.gone c.args.input) c.args.waiting.now.puncts) c.as_slice.ensures.value))

pub returns-clause-held : goal.returns-clause-held
returns-clause-held c =
    let lt : c.args.input < inputs c.args.self.now.spec = c.requires.there in
    let there : c.args.input < inputs (join_data (arc_value c.self.inside.spec) c.self.inside.schemes c.self.inside.certs) = rw (← c.self.view_is) at lt in
    let kept : c.low-low.result ≡ kept_low c.args.self.now.kept = c.low-low.ensures.kept in
    let low : c.low-low.result ≡ kept_low (seen (made_with c.self.inside.node (join_data (arc_value c.self.inside.spec) c.self.inside.schemes c.self.inside.certs) c.self.inside.limit) c.self.inside.next c.self.inside.done (log_of c.self.inside.row_states.items) (puncts_of c.self.inside.punct_stores.items) c.self.inside.waiting.puncts c.self.inside.taken.items).kept = rw (← c.self.view_is) at kept in
    let cert : steps_in c.index.result.now ≡ steps_of (join_data (arc_value c.self.inside.spec) c.self.inside.schemes c.self.inside.certs) c.args.input = (purge_here (join_data (arc_value c.self.inside.spec) c.self.inside.schemes c.self.inside.certs) c.self.inside.purges.items c.args.input c.index.result.now c.self.invariant.5 there c.index.ensures).follows in
    let looks = same-judge (join_data (arc_value c.self.inside.spec) c.self.inside.schemes c.self.inside.certs) c.args.input c.low-low.result c.deref.result.now (steps_in c.index.result.now) c.as_slice.result.now c.self.inside.row_states.items c.as_slice-2.result.now c.self.inside.punct_stores.items c.deref.ensures cert c.as_slice.ensures.value c.as_slice-2.ensures.value in
    let held : AreHeld c.args.self.now.kept.next c.args.self.now.kept.stored c.args.waiting.now = c.requires.held in
    let are : AreHeld c.self.inside.next (log_of c.self.inside.row_states.items) c.args.waiting.now = rw (← c.self.view_is) at held in
    rw (← c.self.view_is)
    (held_behind (seen (made_with c.self.inside.node (join_data (arc_value c.self.inside.spec) c.self.inside.schemes c.self.inside.certs) c.self.inside.limit) c.self.inside.next c.self.inside.done (log_of c.self.inside.row_states.items) (puncts_of c.self.inside.punct_stores.items) c.args.waiting.now.puncts c.self.inside.taken.items) c.args.input (state_at c.self.inside.row_states.items c.args.input).rows c.in_ok-left.left.gone c.in_ok-left.left.waiting.goes c.in_ok-left.left.waiting.freed c.args.waiting.now c.sweep.new.waiting
    (side-is (join_data (arc_value c.self.inside.spec) c.self.inside.schemes c.self.inside.certs) c.self.inside.limit c.self.inside.next c.self.inside.done c.self.inside.row_states.items c.self.inside.punct_stores.items c.self.inside.pending c.self.inside.taken.items c.self.invariant.0 c.args.input there)
    (has-is c.self.inside.node (join_data (arc_value c.self.inside.spec) c.self.inside.schemes c.self.inside.certs) c.self.inside.limit c.self.inside.next c.self.inside.done c.self.inside.row_states.items c.self.inside.punct_stores.items c.self.inside.pending c.self.inside.taken.items c.args.waiting.now.puncts c.args.input c.self.invariant.0 there c.in_ok-left.left.gone (gone-are c.self.inside.node (join_data (arc_value c.self.inside.spec) c.self.inside.schemes c.self.inside.certs) c.self.inside.limit c.self.inside.next c.self.inside.done c.self.inside.row_states.items c.self.inside.punct_stores.items c.self.inside.pending c.self.inside.taken.items c.args.waiting.now.puncts c.args.input c.self.invariant.0 there c.low-low.result c.in_ok-left.left.gone low (c.in_ok-left.ensures.gone ∙ ap ripe_tickets looks)))
    c.in_ok-left.ensures.rising
    (c.in_ok-left.ensures.goes ∙ ap (λ (ss : List StateView). tickets_where (lets_go (state_at ss c.args.input).rows c.in_ok-left.left.gone c.args.input) c.args.waiting.now.puncts) c.as_slice.ensures.value)
    c.in_ok-left.ensures.freed are c.sweep.ensures.puncts c.sweep.ensures.keeps
    (subst (λ (ss : List StateView). StayHeld (state_at ss c.args.input).rows c.in_ok-left.left.gone c.args.input c.sweep.new.waiting) c.as_slice.ensures.value c.in_ok-left.ensures.held))

pub returns-clause-out : goal.returns-clause-out
returns-clause-out c =
    let lt : c.args.input < inputs c.args.self.now.spec = c.requires.there in
    let there : c.args.input < inputs (join_data (arc_value c.self.inside.spec) c.self.inside.schemes c.self.inside.certs) = rw (← c.self.view_is) at lt in
    let kept : c.low-low.result ≡ kept_low c.args.self.now.kept = c.low-low.ensures.kept in
    let low : c.low-low.result ≡ kept_low (seen (made_with c.self.inside.node (join_data (arc_value c.self.inside.spec) c.self.inside.schemes c.self.inside.certs) c.self.inside.limit) c.self.inside.next c.self.inside.done (log_of c.self.inside.row_states.items) (puncts_of c.self.inside.punct_stores.items) c.self.inside.waiting.puncts c.self.inside.taken.items).kept = rw (← c.self.view_is) at kept in
    let cert : steps_in c.index.result.now ≡ steps_of (join_data (arc_value c.self.inside.spec) c.self.inside.schemes c.self.inside.certs) c.args.input = (purge_here (join_data (arc_value c.self.inside.spec) c.self.inside.schemes c.self.inside.certs) c.self.inside.purges.items c.args.input c.index.result.now c.self.invariant.5 there c.index.ensures).follows in
    let looks = same-judge (join_data (arc_value c.self.inside.spec) c.self.inside.schemes c.self.inside.certs) c.args.input c.low-low.result c.deref.result.now (steps_in c.index.result.now) c.as_slice.result.now c.self.inside.row_states.items c.as_slice-2.result.now c.self.inside.punct_stores.items c.deref.ensures cert c.as_slice.ensures.value c.as_slice-2.ensures.value in
    rw (← c.self.view_is) (going-are c.self.inside.node (join_data (arc_value c.self.inside.spec) c.self.inside.schemes c.self.inside.certs) c.self.inside.limit c.self.inside.next c.self.inside.done c.self.inside.row_states.items c.self.inside.punct_stores.items c.self.inside.pending c.self.inside.taken.items c.args.waiting.now.puncts c.args.input c.self.invariant.0 there c.in_ok-left.left.gone (gone-are c.self.inside.node (join_data (arc_value c.self.inside.spec) c.self.inside.schemes c.self.inside.certs) c.self.inside.limit c.self.inside.next c.self.inside.done c.self.inside.row_states.items c.self.inside.punct_stores.items c.self.inside.pending c.self.inside.taken.items c.args.waiting.now.puncts c.args.input c.self.invariant.0 there c.low-low.result c.in_ok-left.left.gone low (c.in_ok-left.ensures.gone ∙ ap ripe_tickets looks)) c.args.out.now c.sweep.new.out
    (c.in_ok-left.ensures.out ∙ ap (λ (s : JoinSpec). c.args.out.now ++ letting_go s.inputs (state_at c.as_slice.result.now c.args.input).rows c.in_ok-left.left.gone c.args.input c.args.waiting.now.puncts) c.deref.ensures
    ∙ ap (λ (ss : List StateView). c.args.out.now ++ letting_go (arc_value c.self.inside.spec).inputs (state_at ss c.args.input).rows c.in_ok-left.left.gone c.args.input c.args.waiting.now.puncts) c.as_slice.ensures.value))
