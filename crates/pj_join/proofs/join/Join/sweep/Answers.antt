use Rattle.std.proofs.Common.{◌≡◌, ◌<◌, ◌∙◌, ◌++◌, [], List, ap, arith, refl, sym}
use Rattle.std.specs.Arc.{arc_value}
use Rattle.std.proofs.lemmas.List.{append-nil}
use Rattle.pj_events.specs.Patterns.{Pattern}
use Rattle.pj_events.specs.Join.{PunctAt, Sweep, inputs}
use Rattle.pj_events.specs.KeptState.{swept}
use Rattle.pj_join.specs.Insides.{made_with, seen}
use Rattle.pj_join.specs.Joins.{after, with_waiting}
use Rattle.pj_recheck.specs.Judging.{join_data}
use Rattle.pj_join.specs.Sweeping.{waiting_on, swept_off}
use Rattle.pj_join.specs.Sides.{log_of, puncts_of}
use Rattle.pj_join.proofs.Holding.{idle}
use Rattle.pj_waiting.proofs.Holding.{on_both, on_ok}
use Rattle.pj_join.proofs.Standing.{stands-sweep}
use Rattle.pj_join.proofs.Sweeps.{forgets, goes-where-covered, hands-sweep, stays-ripe}
use Rattle.pj_join.proofs.join.Join.sweep.Goals as goal

pub returns-clause-sweeps : goal.returns-clause-sweeps
returns-clause-sweeps c =
    rw (← c.self.view_is)
    (on_both c.sweep_rows-swept.result
    (λ sweeps waits. ap (with_waiting c.sweep_rows-swept.new.waiting.puncts) (c.self-2.view_is ∙ sweeps)
    ∙ ap (λ (ps : List PunctAt). with_waiting ps (after (seen (made_with c.self.inside.node (join_data (arc_value c.self.inside.spec) c.self.inside.schemes c.self.inside.certs) c.self.inside.limit) c.self.inside.next c.self.inside.done (log_of c.self.inside.row_states.items) (puncts_of c.self.inside.punct_stores.items) c.self.inside.waiting.puncts c.self.inside.taken.items) (Sweep c.args.input)))
    (waits ∙ ap (λ w. waiting_on (swept (seen (made_with c.self.inside.node (join_data (arc_value c.self.inside.spec) c.self.inside.schemes c.self.inside.certs) c.self.inside.limit) c.self.inside.next c.self.inside.done (log_of c.self.inside.row_states.items) (puncts_of c.self.inside.punct_stores.items) c.new.result.puncts c.self.inside.taken.items).spec (seen (made_with c.self.inside.node (join_data (arc_value c.self.inside.spec) c.self.inside.schemes c.self.inside.certs) c.self.inside.limit) c.self.inside.next c.self.inside.done (log_of c.self.inside.row_states.items) (puncts_of c.self.inside.punct_stores.items) c.new.result.puncts c.self.inside.taken.items).kept c.args.input) c.args.input w.puncts) c.replace-waiting.ensures.value))
    c.sweep_rows-swept.ensures.sweeps c.sweep_rows-swept.ensures.waiting)

pub returns-clause-count : goal.returns-clause-count
returns-clause-count c = rw (← c.self.view_is) c.sweep_rows-swept.ensures.count

pub returns-clause-removed : goal.returns-clause-removed
returns-clause-removed c = rw (← c.self.view_is) c.sweep_rows-swept.ensures.removed

pub returns-clause-stands : goal.returns-clause-stands
returns-clause-stands c =
    let some : 0 < inputs c.args.self.now.spec = omega (arith, c.requires.there) in
    on_both c.sweep_rows-swept.result (λ sweeps certified. stands-sweep c.args.self.now (with_waiting c.sweep_rows-swept.new.waiting.puncts (seen (made_with c.self-2.inside.node (join_data (arc_value c.self-2.inside.spec) c.self-2.inside.schemes c.self-2.inside.certs) c.self-2.inside.limit) c.self-2.inside.next c.self-2.inside.done (log_of c.self-2.inside.row_states.items) (puncts_of c.self-2.inside.punct_stores.items) c.self-2.inside.waiting.puncts c.self-2.inside.taken.items)) c.args.input (c.standing.ensures c.args.self.now.spec some) (rw (← c.self.view_is) certified) c.requires.there sweeps)
    (returns-clause-sweeps c) c.sweep_rows-swept.ensures.certified

pub returns-clause-hands : goal.returns-clause-hands
returns-clause-hands c = on_ok c.sweep_rows-swept.result (λ sweeps. hands-sweep c.args.self.now c.args.input) c.sweep_rows-swept.ensures.sweeps

pub returns-clause-forgets : goal.returns-clause-forgets
returns-clause-forgets c =
    on_ok c.sweep_rows-swept.result (λ certified. forgets c.args.self.now c.args.input (c.forgetting_is_safe.ensures.never_needed c.args.self.now.spec (rw (← c.self.view_is) certified)) c.requires.there) c.sweep_rows-swept.ensures.certified

pub returns-clause-covered : goal.returns-clause-covered
returns-clause-covered c =
    on_ok c.sweep_rows-swept.result (λ certified. goes-where-covered c.args.self.now c.args.input (c.ripeness.ensures.when_covered c.args.self.now.spec (rw (← c.self.view_is) certified))) c.sweep_rows-swept.ensures.certified

pub returns-clause-stays : goal.returns-clause-stays
returns-clause-stays c =
    on_ok c.sweep_rows-swept.result (λ certified. stays-ripe c.args.self.now c.args.input (c.ripeness.ensures.stays c.args.self.now.spec (rw (← c.self.view_is) certified))) c.sweep_rows-swept.ensures.certified

-- ---- where no row is judged

pub returns-then-is_idle-clause-sweeps : goal.returns-then-is_idle-clause-sweeps
returns-then-is_idle-clause-sweeps c =
    let none : swept_off c.args.self.now c.args.input ≡ [] = c.is_idle.ensures c.if-is_idle.true in
    let off : swept_off (seen (made_with c.self.inside.node (join_data (arc_value c.self.inside.spec) c.self.inside.schemes c.self.inside.certs) c.self.inside.limit) c.self.inside.next c.self.inside.done (log_of c.self.inside.row_states.items) (puncts_of c.self.inside.punct_stores.items) c.self.inside.waiting.puncts c.self.inside.taken.items) c.args.input ≡ [] = rw (← c.self.view_is) at none in
    rw (← c.self.view_is) (idle (seen (made_with c.self.inside.node (join_data (arc_value c.self.inside.spec) c.self.inside.schemes c.self.inside.certs) c.self.inside.limit) c.self.inside.next c.self.inside.done (log_of c.self.inside.row_states.items) (puncts_of c.self.inside.punct_stores.items) c.self.inside.waiting.puncts c.self.inside.taken.items) c.args.input c.self.inside.waiting off refl c.self.invariant.2).0

pub returns-then-is_idle-clause-out : goal.returns-then-is_idle-clause-out
returns-then-is_idle-clause-out c =
    let none : swept_off c.args.self.now c.args.input ≡ [] = c.is_idle.ensures c.if-is_idle.true in
    let off : swept_off (seen (made_with c.self.inside.node (join_data (arc_value c.self.inside.spec) c.self.inside.schemes c.self.inside.certs) c.self.inside.limit) c.self.inside.next c.self.inside.done (log_of c.self.inside.row_states.items) (puncts_of c.self.inside.punct_stores.items) c.self.inside.waiting.puncts c.self.inside.taken.items) c.args.input ≡ [] = rw (← c.self.view_is) at none in
    rw (← c.self.view_is) (sym (ap (λ (ps : List (List Pattern)). c.args.out.now ++ ps) (idle (seen (made_with c.self.inside.node (join_data (arc_value c.self.inside.spec) c.self.inside.schemes c.self.inside.certs) c.self.inside.limit) c.self.inside.next c.self.inside.done (log_of c.self.inside.row_states.items) (puncts_of c.self.inside.punct_stores.items) c.self.inside.waiting.puncts c.self.inside.taken.items) c.args.input c.self.inside.waiting off refl c.self.invariant.2).1 ∙ append-nil c.args.out.now))

pub returns-then-is_idle-clause-stands : goal.returns-then-is_idle-clause-stands
returns-then-is_idle-clause-stands c =
    let some : 0 < inputs c.args.self.now.spec = omega (arith, c.requires.there) in
    stands-sweep c.args.self.now c.args.self.now c.args.input (c.standing.ensures c.args.self.now.spec some) (rw (← c.self.view_is) c.self.invariant.0.ordered.certified) c.requires.there (returns-then-is_idle-clause-sweeps c)

pub returns-then-is_idle-clause-hands : goal.returns-then-is_idle-clause-hands
returns-then-is_idle-clause-hands c = hands-sweep c.args.self.now c.args.input

pub returns-then-is_idle-clause-forgets : goal.returns-then-is_idle-clause-forgets
returns-then-is_idle-clause-forgets c = forgets c.args.self.now c.args.input (c.forgetting_is_safe.ensures.never_needed c.args.self.now.spec (rw (← c.self.view_is) c.self.invariant.0.ordered.certified)) c.requires.there

pub returns-then-is_idle-clause-covered : goal.returns-then-is_idle-clause-covered
returns-then-is_idle-clause-covered c = goes-where-covered c.args.self.now c.args.input (c.ripeness.ensures.when_covered c.args.self.now.spec (rw (← c.self.view_is) c.self.invariant.0.ordered.certified))

pub returns-then-is_idle-clause-stays : goal.returns-then-is_idle-clause-stays
returns-then-is_idle-clause-stays c = stays-ripe c.args.self.now c.args.input (c.ripeness.ensures.stays c.args.self.now.spec (rw (← c.self.view_is) c.self.invariant.0.ordered.certified))
