use Rattle.std.proofs.Common.{List, Some, length, ap, sym, ◌∙◌, arith}
use Rattle.std.specs.List.{slice_get}
use Rattle.std.specs.Option.{is_some}
use Rattle.pj_state.specs.declared.shared.Stored.{Stored}
use Rattle.pj_state.proofs.Slots.{held-at, length-rows, stored-there}
use Rattle.pj_state.proofs.store.Store.nth.Goals as goal

pub place_at-place-requires-clause-within : goal.place_at-place-requires-clause-within
place_at-place-requires-clause-within c =
    omega (arith, c.requires, c.len.ensures, c.self.invariant.count, ap length c.self.view_is, length-rows c.self.inside.slab.slots c.self.inside.places)

pub index-requires : goal.index-requires
index-requires c = ap is_some (held-at c.self.inside.slab.slots c.self.inside.places c.args.at c.place_at-place.result c.self.invariant.held c.place_at-place.ensures).0.1

pub returns : goal.returns
returns c =
    ap (λ (rows : List Stored). slice_get rows c.args.at) (sym c.self.view_is)
    ∙ ((held-at c.self.inside.slab.slots c.self.inside.places c.args.at c.place_at-place.result c.self.invariant.held c.place_at-place.ensures).1
    ∙ ap (λ (s : Stored). Some s) (stored-there c.self.inside.slab.slots c.place_at-place.result c.index.result.now c.index.ensures))
