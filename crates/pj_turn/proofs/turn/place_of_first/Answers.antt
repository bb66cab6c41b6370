use Rattle.std.proofs.Common.{rules, refl, ◌≡◌, ◌≢◌, Some, slice_get, length, sym, ap, ◌∙◌, arith}
use Rattle.std.proofs.lemmas.Option.{slice_get_within, slice_get_read}
use Rattle.pj_turn.proofs.Steps.{same_inside}
use Rattle.pj_turn.proofs.turn.place_of_first.Goals as goal

pub loop-place-preserved : goal.loop-place-preserved
loop-place-preserved g c =
    let i = c.loop-place.invariant in
    let place = c.loop-place.place in
    let items = c.args.seats.now.items in
    let in_list = slice_get_within items i.0 i.1 i.2 in
    let below = i.4 in
    let here : slice_get c.args.seats.now.items place ≡ Some c.index.result.now = slice_get_read items (length items) place c.index.result.now refl (omega (arith, in_list, below)) (search rules) in
    let some_other : c.index.result.now.number ≢ 0 = c.loop-place-test.true in
    let apart : i.0 ≢ place = λ same. some_other (ap (λ s. s.number) (same_inside c.index.result.now i.1 (sym here ∙ (ap (λ k. slice_get c.args.seats.now.items k) (sym same) ∙ i.2))) ∙ i.3) in
    (i.0, i.1, i.2, i.3, omega (arith, below, apart))

pub returns : goal.returns
returns g c =
    let i = c.loop-place.invariant in
    let items = c.args.seats.now.items in
    let in_list = slice_get_within items i.0 i.1 i.2 in
    let below = i.4 in
    (c.index.result.now, slice_get_read items (length items) c.loop-place.place c.index.result.now refl (omega (arith, in_list, below)) (search rules), search rules)
