use Rattle.std.proofs.Common.{refl, sym, ap, ◌∙◌, ◌<◌, length, get_or, arith}
use Rattle.std.proofs.lemmas.Option.{slice_get_within, slice_get_read, slice_get-get_or, get_or_from_slice_get}
use Rattle.pj_turn.specs.Seats.{seat_name, seat_number}
use Rattle.pj_test_workers.proofs.runs.work_on_all.Goals as goal

pub for_each_mut-requires-clause-accepts : goal.for_each_mut-requires-clause-accepts
for_each_mut-requires-clause-accepts g c κs within = λ i p lt here.
    (c.requires.seats i p.now (slice_get_read c.args.seats.now (length c.args.seats.now) i p.now refl lt here), c.requires.auction)

pub returns : goal.returns
returns g c = (
  c.for_each_mut.auto.s,
  λ k s e.
      let old = c.args.seats.now in
      let new = c.for_each_mut.new.s in
      let within = slice_get_within new k s e in
      let same_length = c.for_each_mut.auto.s in
      let lt : k < length old = omega (arith, within, same_length) in
      let seat = c.requires.seats k (get_or old k s) (slice_get-get_or old k s lt) in
      let left = (c.for_each_mut.ensures k s lt).1 in
      let is = left.left ∙ get_or_from_slice_get new k s s e in
      record {
        name = ap (λ t. seat_name t) (sym is) ∙ (left.call.0 ∙ (ap (λ t. seat_name t) left.argument_is ∙ seat.name));
        number = ap (λ t. seat_number t) (sym is) ∙ (left.call.1 ∙ (ap (λ t. seat_number t) left.argument_is ∙ seat.number));
      },
)
