use Rattle.std.proofs.Common.{◌∙◌, List, ap}
use Rattle.std.specs.List.{slice_get}
use Rattle.std.specs.Arc.{arc_value}
use Rattle.pj_join.specs.declared.place.Place.{Place}
use Rattle.pj_recheck.specs.Judging.{join_data}
use Rattle.pj_join.specs.Sides.{log_of}
use Rattle.pj_join.proofs.Standing.{low-stands}
use Rattle.pj_join.proofs.Calling.{low-taken, low-pending, low-next}
use Rattle.pj_join.proofs.Kept.{first-place, no-place}
use Rattle.pj_join.proofs.join.Join.low.Goals as goal

pub returns-in-Some-clause-kept : goal.returns-in-Some-clause-kept
returns-in-Some-clause-kept c = rw (← c.self.view_is) (low-taken c.self.inside.taken.items _ c.self.inside.next c.in-Some.ticket.now (rw (← c.deref.ensures.value) c.in-Some.ensures.value) c.self.invariant.0.ordered.open_rising)

pub returns-in-Some-clause-exact : goal.returns-in-Some-clause-exact
returns-in-Some-clause-exact c = low-stands c.args.self.now c.in-Some.ticket.now (returns-in-Some-clause-kept c)

pub returns-in-Some-first-clause-kept : goal.returns-in-Some-first-clause-kept
returns-in-Some-first-clause-kept c =
    let queued = first-place (join_data (arc_value c.self.inside.spec) c.self.inside.schemes c.self.inside.certs) c.self.inside.limit c.self.inside.next c.self.inside.done c.self.inside.row_states.items c.self.inside.punct_stores.items c.self.inside.pending c.self.inside.taken.items c.self.invariant.0
    c.in-Some-first.first.now (c.in-Some-first.ensures.value ∙ ap (λ (ps : List Place). slice_get ps 0) c.as_slice.ensures) in
    rw (← c.self.view_is)
    (queued.2 ∙ low-pending c.self.inside.taken.items (log_of c.self.inside.row_states.items) c.self.inside.next c.self.inside.done queued.0 (rw (← c.deref.ensures.value) c.in-None.ensures.item.3) queued.1 c.self.invariant.0.ordered.open_rising)

pub returns-in-Some-first-clause-exact : goal.returns-in-Some-first-clause-exact
returns-in-Some-first-clause-exact c = low-stands c.args.self.now c.in-Some-first.first.now.ticket (returns-in-Some-first-clause-kept c)

pub returns-in-None-first-clause-kept : goal.returns-in-None-first-clause-kept
returns-in-None-first-clause-kept c =
    let none = no-place (join_data (arc_value c.self.inside.spec) c.self.inside.schemes c.self.inside.certs) c.self.inside.limit c.self.inside.next c.self.inside.done c.self.inside.row_states.items c.self.inside.punct_stores.items c.self.inside.pending c.self.inside.taken.items c.self.invariant.0
    (c.in-None-first.ensures.value ∙ ap (λ (ps : List Place). slice_get ps 0) c.as_slice.ensures) in
    rw (← c.self.view_is) (low-next c.self.inside.taken.items (log_of c.self.inside.row_states.items) c.self.inside.next c.self.inside.done (rw (← c.deref.ensures.value) c.in-None.ensures.item.3) none)

pub returns-in-None-first-clause-exact : goal.returns-in-None-first-clause-exact
returns-in-None-first-clause-exact c = low-stands c.args.self.now c.self.inside.next (returns-in-None-first-clause-kept c)
