use Rattle.std.proofs.Common.{◌≡◌, ◌<◌, ◌≤◌, All, ◌+◌, arith, List, [], ◌∷◌, ◌++◌, length, reverse, slice_get, Some, vec_capacity, refl, sym, ap, ap₂, subst, ◌∙◌}
use Rattle.std.proofs.lemmas.List.{length-reverse}
use Rattle.std.proofs.lemmas.List.Elements.{length_all_zip}
use Rattle.pj_turn.specs.Seats.{Saw}
use Rattle.pj_hub.specs.Hubs.{ClosesHub, hub_with}
use Rattle.pj_hub.specs.Seated.{hub_made, hub_name}
use Rattle.pj_crew.specs.Tasks.{HasWorked, IsReady, SeatState, WriterState}
use Rattle.pj_crew.specs.Seats.{duties_of, seat_state, seat_states, seats_of}
use Rattle.pj_crew.proofs.Beginnings.{all-ready, all-turned, length-seats, length-states, opened, written-back}
use Rattle.pj_crew.proofs.Histories.{all-counted, all-numbered, are-all, crew-done, has-run, tasks-long}
use Rattle.pj_crew.proofs.Endings.{states-at}
use Rattle.pj_crew.proofs.Places.{states-push}
use Rattle.pj_crew.proofs.crew.run_seated.Goals as goal

pub run_side_by_side-requires-clause-tasks : goal.run_side_by_side-requires-clause-tasks
run_side_by_side-requires-clause-tasks g c κs within =
    let parts = opened seat_state (hub_name c.args.hub) c.args.seats.items c.pop.new.self.items c.in-Some.seat c.in-Some.ensures.items
    (λ i s e. let n = c.requires.seats.1 i s e in record { fresh = record { name = n.name; seen = n.seen }; number = n.number }) in
    subst (λ ts. All (IsReady (hub_name c.args.hub) (hub_with (hub_made c.args.hub))) ts) (sym (c.as_mut_slice.ensures.value ∙ c.take_seats.ensures.tasks))
    (all-turned (IsReady (hub_name c.args.hub) (hub_with (hub_made c.args.hub))) _ (all-ready seat_state (hub_name c.args.hub) (hub_with (hub_made c.args.hub)) 0 c.pop.new.self.items c.args.duties.items parts.0 c.requires.may))

pub run_side_by_side-requires-clause-writer : goal.run_side_by_side-requires-clause-writer
run_side_by_side-requires-clause-writer g c κs within =
    (opened seat_state (hub_name c.args.hub) c.args.seats.items c.pop.new.self.items c.in-Some.seat c.in-Some.ensures.items
    (λ i s e. let n = c.requires.seats.1 i s e in record { fresh = record { name = n.name; seen = n.seen }; number = n.number })).1.fresh

pub leave_seats-requires-clause-room : goal.leave_seats-requires-clause-room
leave_seats-requires-clause-room g c =
    let placed = c.as_mut_slice.ensures.value ∙ c.take_seats.ensures.tasks in
    let long = tasks-long seat_state (hub_with (hub_made c.args.hub)) c.args.seats.items c.pop.new.self.items c.in-Some.seat c.args.duties.items c.as_mut_slice.result.now c.run_side_by_side.new.tasks c.in-Some.ensures.items c.requires.seats.0 placed c.run_side_by_side.ensures.worked in
    let same : length c.run_side_by_side.new.tasks ≡ length c.take_seats.new.tasks.items = sym (length_all_zip (HasWorked (hub_with (hub_made c.args.hub))) _ _ c.run_side_by_side.ensures.worked) ∙ ap length c.as_mut_slice.ensures.value in
    let back = ap length (written-back c.take_seats.new.tasks.len c.take_seats.new.tasks.items c.run_side_by_side.new.tasks c.take_seats.new.tasks.ok.0 same) ∙ long in
    let seats : length c.args.seats.items ≤ vec_capacity c.args.seats = subst (λ n. n ≤ vec_capacity c.args.seats) c.args.seats.ok.0 c.args.seats.ok.1 in
    let duties : length c.args.duties.items ≤ vec_capacity c.args.duties = subst (λ n. n ≤ vec_capacity c.args.duties) c.args.duties.ok.0 c.args.duties.ok.1 in
    (omega (arith, back, seats, c.requires.seats.0, c.take_seats.ensures.room.0, c.pop.ensures.capacity), omega (arith, back, duties, c.take_seats.ensures.room.1))

pub push_reserved-requires : goal.push_reserved-requires
push_reserved-requires g c =
    let placed = c.as_mut_slice.ensures.value ∙ c.take_seats.ensures.tasks in
    let long = tasks-long seat_state (hub_with (hub_made c.args.hub)) c.args.seats.items c.pop.new.self.items c.in-Some.seat c.args.duties.items c.as_mut_slice.result.now c.run_side_by_side.new.tasks c.in-Some.ensures.items c.requires.seats.0 placed c.run_side_by_side.ensures.worked in
    let same : length c.run_side_by_side.new.tasks ≡ length c.take_seats.new.tasks.items = sym (length_all_zip (HasWorked (hub_with (hub_made c.args.hub))) _ _ c.run_side_by_side.ensures.worked) ∙ ap length c.as_mut_slice.ensures.value in
    let back = written-back c.take_seats.new.tasks.len c.take_seats.new.tasks.items c.run_side_by_side.new.tasks c.take_seats.new.tasks.ok.0 same in
    let left : length c.leave_seats.new.seats.items ≡ length c.args.duties.items =
    sym (length-states seat_state c.leave_seats.new.seats.items) ∙ (ap length (c.leave_seats.ensures.seats ∙ ap (λ ts. seats_of (reverse ts)) back) ∙ (length-seats (reverse c.run_side_by_side.new.tasks) ∙ (length-reverse c.run_side_by_side.new.tasks ∙ long))) in
    let seats : length c.args.seats.items ≤ vec_capacity c.args.seats = subst (λ n. n ≤ vec_capacity c.args.seats) c.args.seats.ok.0 c.args.seats.ok.1 in
    subst (λ n. n < vec_capacity c.leave_seats.new.seats) (sym c.leave_seats.new.seats.ok.0)
    (omega (arith, left, seats, c.requires.seats.0, c.leave_seats.ensures.room, c.take_seats.ensures.room.0, c.pop.ensures.capacity))

pub close-core-requires : goal.close-core-requires
close-core-requires g c =
    let placed = c.as_mut_slice.ensures.value ∙ c.take_seats.ensures.tasks in
    let same : length c.run_side_by_side.new.tasks ≡ length c.take_seats.new.tasks.items = sym (length_all_zip (HasWorked (hub_with (hub_made c.args.hub))) _ _ c.run_side_by_side.ensures.worked) ∙ ap length c.as_mut_slice.ensures.value in
    let back = written-back c.take_seats.new.tasks.len c.take_seats.new.tasks.items c.run_side_by_side.new.tasks c.take_seats.new.tasks.ok.0 same in
    let d = crew-done seat_state (hub_name c.args.hub) (hub_made c.args.hub) c.args.plan.now.nodes c.args.duties.items _ _ c.args.seats.items c.pop.new.self.items c.in-Some.seat c.as_mut_slice.result.now c.run_side_by_side.new.tasks
    _ c.run_side_by_side.new.writer c.in-Some.ensures.items (λ i s e. let n = c.requires.seats.1 i s e in record { fresh = record { name = n.name; seen = n.seen }; number = n.number }) c.requires.seats.0 placed c.run_side_by_side.ensures.worked refl c.run_side_by_side.ensures.written in
    let states : seat_states seat_state c.of.result ≡ seats_of (reverse c.run_side_by_side.new.tasks) ++ c.run_side_by_side.new.writer.seat ∷ [] =
    ap (seat_states seat_state) (c.of.ensures ∙ c.push_reserved.ensures.items) ∙ (states-push seat_state c.leave_seats.new.seats.items c.writer.inside.seat
    ∙ ap₂ (λ (xs ys : List SeatState). xs ++ ys) (c.leave_seats.ensures.seats ∙ ap (λ ts. seats_of (reverse ts)) back) (ap (λ (w : WriterState). w.seat ∷ []) c.writer.view_is)) in
    let all = are-all seat_state (hub_name c.args.hub) c.of.result _ states (all-numbered seat_state (hub_name c.args.hub) (hub_made c.args.hub) c.args.plan.now.nodes c.args.duties.items _ _ d) in
    let count = all-counted seat_state (hub_name c.args.hub) (hub_made c.args.hub) c.args.plan.now.nodes c.args.duties.items _ _ d in
    record { of_turn = all.named; all = λ n lt. all.each n (subst (λ m. n < m) (c.requires.hub ∙ sym count) lt) }

pub returns : goal.returns
returns g c =
    let placed = c.as_mut_slice.ensures.value ∙ c.take_seats.ensures.tasks in
    let same : length c.run_side_by_side.new.tasks ≡ length c.take_seats.new.tasks.items = sym (length_all_zip (HasWorked (hub_with (hub_made c.args.hub))) _ _ c.run_side_by_side.ensures.worked) ∙ ap length c.as_mut_slice.ensures.value in
    let back = written-back c.take_seats.new.tasks.len c.take_seats.new.tasks.items c.run_side_by_side.new.tasks c.take_seats.new.tasks.ok.0 same in
    let d = crew-done seat_state (hub_name c.args.hub) (hub_made c.args.hub) c.args.plan.now.nodes c.args.duties.items _ _ c.args.seats.items c.pop.new.self.items c.in-Some.seat c.as_mut_slice.result.now c.run_side_by_side.new.tasks
    _ c.run_side_by_side.new.writer c.in-Some.ensures.items (λ i s e. let n = c.requires.seats.1 i s e in record { fresh = record { name = n.name; seen = n.seen }; number = n.number }) c.requires.seats.0 placed c.run_side_by_side.ensures.worked refl c.run_side_by_side.ensures.written in
    let states : seat_states seat_state c.of.result ≡ seats_of (reverse c.run_side_by_side.new.tasks) ++ c.run_side_by_side.new.writer.seat ∷ [] =
    ap (seat_states seat_state) (c.of.ensures ∙ c.push_reserved.ensures.items) ∙ (states-push seat_state c.leave_seats.new.seats.items c.writer.inside.seat
    ∙ ap₂ (λ (xs ys : List SeatState). xs ++ ys) (c.leave_seats.ensures.seats ∙ ap (λ ts. seats_of (reverse ts)) back) (ap (λ (w : WriterState). w.seat ∷ []) c.writer.view_is)) in
    let closes : ClosesHub (hub_made c.args.hub) (length c.args.duties.items + 1) (Saw c.of.result) c.close-core.result = subst (λ n. ClosesHub (hub_made c.args.hub) n (Saw c.of.result) c.close-core.result) c.requires.hub c.close-core.ensures in
    has-run seat_state (hub_name c.args.hub) (hub_made c.args.hub) c.args.plan.now.nodes c.args.duties.items _ _ d (Saw c.of.result) c.close-core.result closes
    (λ i state at. let s = states-at seat_state c.of.result i state (subst (λ (l : List SeatState). slice_get l i ≡ Some state) (sym states) at) in (i, s.0, s.1, ap (λ (x : SeatState). x.number) s.2, ap (λ (x : SeatState). x.seen) s.2))
    c.args.results _ refl refl (c.leave_seats.ensures.duties ∙ ap (λ ts. duties_of (reverse ts)) back) (ap (λ (w : WriterState). w.results) c.writer.view_is) (ap (λ (w : WriterState). w.end) c.writer.view_is)
