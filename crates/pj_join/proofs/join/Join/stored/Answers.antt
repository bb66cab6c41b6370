use Rattle.std.proofs.Common.{◌≤◌, ◌^◌, List, length, ap, arith}
use Rattle.std.proofs.lemmas.List.{length-map}
use Rattle.std.specs.Arc.{arc_value}
use Rattle.pj_events.specs.Join.{TupleAt}
use Rattle.pj_join.specs.declared.place.Place.{Place}
use Rattle.pj_join.specs.Insides.{tickets}
use Rattle.pj_join.specs.Joins.{JoinView}
use Rattle.pj_recheck.specs.Judging.{join_data}
use Rattle.pj_join.specs.Sides.{log_of}
use Rattle.pj_join.proofs.Kept.{pending-length}
use Rattle.pj_join.proofs.Orders.{rise-length}
use Rattle.pj_join.proofs.join.Join.stored.Goals as goal

pub overflow_add-result : goal.overflow_add-result
overflow_add-result c =
    let o = c.self.invariant.0.ordered in
    let count = pending-length (join_data (arc_value c.self.inside.spec) c.self.inside.schemes c.self.inside.certs) c.self.inside.limit c.self.inside.next c.self.inside.done c.self.inside.row_states.items c.self.inside.punct_stores.items c.self.inside.pending c.self.inside.taken.items c.self.invariant.0 in
    let few : length (log_of c.self.inside.row_states.items) ≤ 2 ^ 40 = omega (arith, o.small, o.below, rise-length 0 (tickets (log_of c.self.inside.row_states.items)) c.self.inside.next o.rising, length-map (log_of c.self.inside.row_states.items) (λ (x : TupleAt). x.ticket)) in
    omega (arith, count, few, o.within, ap (λ (ps : List Place). length ps) c.as_slice.ensures)

pub returns : goal.returns
returns c =
    let o = c.self.invariant.0.ordered in
    let count = pending-length (join_data (arc_value c.self.inside.spec) c.self.inside.schemes c.self.inside.certs) c.self.inside.limit c.self.inside.next c.self.inside.done c.self.inside.row_states.items c.self.inside.punct_stores.items c.self.inside.pending c.self.inside.taken.items c.self.invariant.0 in
    omega (arith, count, o.within, ap (λ (ps : List Place). length ps) c.as_slice.ensures, ap (λ (v : JoinView). length v.kept.stored) c.self.view_is)
