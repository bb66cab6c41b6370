use Rattle.std.proofs.Common.{sym, ap, ◌∙◌, length}
use Rattle.pj_turn.proofs.Places.{all-seats, first-part}
use Rattle.pj_test_threads.proofs.turns.appended.Goals as goal

pub close-items-requires : goal.close-items-requires
close-items-requires g c =
    let opened = c.in_ok-turn.ensures in
    let left = c.append_on_all.ensures in
    let long = left.0 ∙ ap (λ l. length l) c.as_mut_slice.ensures.value in
    all-seats (λ x. x.limit) c.in_ok-turn.turn c.append_on_all.new.seats c.of.result
    (first-part c.append_on_all.new.seats _ _ _ c.of.ensures (c.into_vec-seats.result.ok.0 ∙ sym long))
    (long ∙ (ap (λ l. length l) c.into_vec-seats.ensures ∙ opened.seats.0) ∙ sym opened.turn.0)
    left.1
