use Rattle.std.proofs.Common.{List, Some, length, ap, sym, ◌∙◌, arith}
use Rattle.std.specs.List.{slice_get}
use Rattle.std.specs.Option.{is_some}
use Rattle.pj_state.specs.Stores.{flat}
use Rattle.pj_state.specs.declared.shared.Stored.{Stored}
use Rattle.pj_state.proofs.Reaching.{found-in}
use Rattle.pj_state.proofs.Slots.{held-at, length-rows, stored-there}
use Rattle.pj_state.proofs.cursor.Cursor.nth.Goals as goal

pub reach-self-inside-requires-clause-within : goal.reach-self-inside-requires-clause-within
reach-self-inside-requires-clause-within c = omega (arith, c.requires, ap length c.self.view_is, length-rows c.self.inside.slab.now.slots (flat c.self.inside.blocks.now))

pub index-requires : goal.index-requires
index-requires c =
    let blocks = c.self.inside.blocks.now in
    let there = found-in blocks c.reach-self-inside.result c.args.at c.index-self-self.result c.at-place.result c.reach-self-inside.ensures c.index-self-self.is c.at-place.ensures in
    ap is_some (held-at c.self.inside.slab.now.slots (flat blocks) c.args.at c.at-place.result c.self.invariant.0 there).0.1

pub returns-clause-row : goal.returns-clause-row
returns-clause-row c =
    let slots = c.self.inside.slab.now.slots in
    let blocks = c.self.inside.blocks.now in
    let there = found-in blocks c.reach-self-inside.result c.args.at c.index-self-self.result c.at-place.result c.reach-self-inside.ensures c.index-self-self.is c.at-place.ensures in
    ap (λ (rows : List Stored). slice_get rows c.args.at) (sym c.self.view_is)
    ∙ ((held-at slots (flat blocks) c.args.at c.at-place.result c.self.invariant.0 there).1
    ∙ ap (λ (s : Stored). Some s) (stored-there slots c.at-place.result c.row.result.now (c.index.ensures ∙ ap (λ (row : _). Some row) (sym c.row.ensures))))
