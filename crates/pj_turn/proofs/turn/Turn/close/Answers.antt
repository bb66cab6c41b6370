use Rattle.std.proofs.Common.{◌≡◌, ℕ, Some, slice_get, ap, sym, ◌∙◌, arith}
use Rattle.std.proofs.lemmas.Option.{slice_get_within, get_or_from_slice_get}
use mathlib.Core.Option.{some}
use lib.ListN.{get_elem?}
use Rattle.pj_turn.specs.Rule.{all_pairs}
use Rattle.pj_turn.proofs.Joins.{all_paired, was_there}
use Rattle.pj_turn.proofs.turn.Turn.close.Goals as goal

pub place_of_first-place-requires : goal.place_of_first-place-requires
place_of_first-place-requires g c =
    let one = c.args.self.sized.3 in
    let a = c.requires.all 0 (omega (arith, one)) in
    (a.0, a.1, ap (λ l. slice_get l a.0) c.into_vec-seats.ensures ∙ a.2, a.3)

pub remove-first-requires : goal.remove-first-requires
remove-first-requires g c =
    let seats = c.into_vec-seats.result in
    let p = c.place_of_first-place.ensures in
    let within = slice_get_within seats.items c.place_of_first-place.result p.0 p.1 in
    let whole = seats.ok in
    omega (arith, within, whole)

pub gather-requires-clause-name : goal.gather-requires-clause-name
gather-requires-clause-name g c =
    let v = c.into_vec-seats.ensures in
    let xs = c.into_vec-seats.result.items in
    let place = c.place_of_first-place.result in
    let p = c.place_of_first-place.ensures in
    let r = c.remove-first.result in
    let is : r ≡ p.0 = c.remove-first.ensures.value ∙ get_or_from_slice_get xs place p.0 r p.1 in
    let here : slice_get xs place ≡ Some r = p.1 ∙ ap Some (sym is) in
    ap (λ n. n.0) (c.requires.of_turn place r (ap (λ l. slice_get l place) (sym v) ∙ here))

pub gather-requires-clause-first : goal.gather-requires-clause-first
gather-requires-clause-first g c =
    let v = c.into_vec-seats.ensures in
    let xs = c.into_vec-seats.result.items in
    let place = c.place_of_first-place.result in
    let p = c.place_of_first-place.ensures in
    let r = c.remove-first.result in
    let is : r ≡ p.0 = c.remove-first.ensures.value ∙ get_or_from_slice_get xs place p.0 r p.1 in
    let here : slice_get xs place ≡ Some r = p.1 ∙ ap Some (sym is) in
    let idle = r.idle in
    (idle.0, idle.1, idle.2, idle.5 ∙ (ap (λ s. s.number) is ∙ p.2), idle.3)

pub gather-requires-clause-others : goal.gather-requires-clause-others
gather-requires-clause-others g c = λ j s e.
    let v = c.into_vec-seats.ensures in
    let k = was_there c.into_vec-seats.result.items c.place_of_first-place.result j s (ap (λ l. slice_get l j) (sym c.remove-first.ensures.items) ∙ e) in
    ap (λ n. n.0) (c.requires.of_turn k.0 s (ap (λ l. slice_get l k.0) (sym v) ∙ k.1))

pub end-requires-clause-name : goal.end-requires-clause-name
end-requires-clause-name g c =
    let v = c.into_vec-seats.ensures in
    let xs = c.into_vec-seats.result.items in
    let place = c.place_of_first-place.result in
    let p = c.place_of_first-place.ensures in
    let r = c.remove-first.result in
    let is : r ≡ p.0 = c.remove-first.ensures.value ∙ get_or_from_slice_get xs place p.0 r p.1 in
    let here : slice_get xs place ≡ Some r = p.1 ∙ ap Some (sym is) in
    c.gather.ensures.name ∙ ap (λ n. n.0) (c.requires.of_turn place r (ap (λ l. slice_get l place) (sym v) ∙ here))

pub end-requires-clause-pairs : goal.end-requires-clause-pairs
end-requires-clause-pairs g c = λ n lt.
    let v = c.into_vec-seats.ensures in
    let xs = c.into_vec-seats.result.items in
    let place = c.place_of_first-place.result in
    let p = c.place_of_first-place.ensures in
    let r = c.remove-first.result in
    let is : r ≡ p.0 = c.remove-first.ensures.value ∙ get_or_from_slice_get xs place p.0 r p.1 in
    let here : slice_get xs place ≡ Some r = p.1 ∙ ap Some (sym is) in
    let pairs = all_pairs c.gather.new.first.me.0 in
    let found : (k : ℕ) (s : _) → slice_get c.args.seats k ≡ Some s → (i : ℕ) × (get_elem? pairs i ≡ some (s.number, s.seat.me.0.seen)) =
    λ k s e. all_paired (λ s. s.number) (λ s. s.seat.me.0.seen) xs place r c.remove-first.new.self.items pairs here (ap (λ s. s.number) is ∙ p.2) c.remove-first.ensures.items c.gather.ensures.own c.gather.ensures.pairs k s (ap (λ l. slice_get l k) v ∙ e) in
    let a = c.requires.all n lt in
    let i = found a.0 a.1 a.2 in
    (i.0, a.1.seat.me.0.seen, i.1 ∙ ap (λ m. some (m, a.1.seat.me.0.seen)) a.3)

pub returns : goal.returns
returns g c =
    let v = c.into_vec-seats.ensures in
    let xs = c.into_vec-seats.result.items in
    let place = c.place_of_first-place.result in
    let p = c.place_of_first-place.ensures in
    let r = c.remove-first.result in
    let is : r ≡ p.0 = c.remove-first.ensures.value ∙ get_or_from_slice_get xs place p.0 r p.1 in
    let here : slice_get xs place ≡ Some r = p.1 ∙ ap Some (sym is) in
    let pairs = all_pairs c.gather.new.first.me.0 in
    let found : (k : ℕ) (s : _) → slice_get c.args.seats k ≡ Some s → (i : ℕ) × (get_elem? pairs i ≡ some (s.number, s.seat.me.0.seen)) =
    λ k s e. all_paired (λ s. s.number) (λ s. s.seat.me.0.seen) xs place r c.remove-first.new.self.items pairs here (ap (λ s. s.number) is ∙ p.2) c.remove-first.ensures.items c.gather.ensures.own c.gather.ensures.pairs k s (ap (λ l. slice_get l k) v ∙ e) in
    let e = c.end.ensures in
    record {
      log = e.log;
      standing = e.standing;
      fixed_is = e.fixed_is;
      keeps = e.keeps;
      seen_all = λ n seen saw. let i = found saw.0 saw.1 saw.2 in e.seen_all n seen (i.0, i.1 ∙ (λ q. some (saw.3 q, saw.4 q)));
      by_seats = e.by_seats;
    }
