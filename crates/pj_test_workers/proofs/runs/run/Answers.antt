use Rattle.std.proofs.Common.{sym, ap, ◌∙◌, length}
use Rattle.pj_turn.proofs.Places.{all-seats, first-part}
use Rattle.pj_hub.specs.Hubs.{shared_with}
use Rattle.pj_test_workers.proofs.runs.run.Goals as goal

pub close-core-requires : goal.close-core-requires
close-core-requires g c =
    let opened = c.in_ok-hub.ensures.seats in
    let left = c.work_on_all.ensures in
    let long = left.0 ∙ ap (λ l. length l) c.as_mut_slice.ensures.value in
    all-seats shared_with c.in_ok-hub.hub.turn c.work_on_all.new.seats c.of.result
    (first-part c.work_on_all.new.seats _ _ _ c.of.ensures (c.into_vec-seats.result.ok.0 ∙ sym long))
    (long ∙ (ap (λ l. length l) c.into_vec-seats.ensures ∙ opened.1) ∙ sym opened.0)
    left.1
