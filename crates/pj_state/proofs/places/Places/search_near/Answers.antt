use Rattle.std.proofs.Common.{◌-◌, arith}
use Rattle.pj_state.proofs.Blocks.{Searched, block-found, nothing-found}
use Rattle.pj_state.proofs.places.Places.search_near.Goals as goal

pub returns-then-behind-eq0 : goal.returns-then-behind-eq0
returns-then-behind-eq0 c =
    let s : Searched c.args.ticket c.self.inside.blocks.items c.as_slice.result.now c.args.self.now c.split_place-behind.result =
    record { same = c.as_slice.ensures.value; whole = c.self.view_is; filled = c.self.invariant; split = c.split_place-behind.ensures } in
    nothing-found c.args.ticket c.self.inside.blocks.items c.as_slice.result.now c.args.self.now c.split_place-behind.result s c.if-behind-eq0.true

pub returns : goal.returns
returns c =
    let s : Searched c.args.ticket c.self.inside.blocks.items c.as_slice.result.now c.args.self.now c.split_place-behind.result =
    record { same = c.as_slice.ensures.value; whole = c.self.view_is; filled = c.self.invariant; split = c.split_place-behind.ensures } in
    block-found c.args.ticket c.self.inside.blocks.items c.as_slice.result.now c.args.self.now c.split_place-behind.result (c.split_place-behind.result - 1)
    c.index.result.now c.index.result.now c.get_near.result s (omega arith) c.index.ensures c.get_near.ensures
