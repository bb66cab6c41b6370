use Rattle.std.proofs.Common.{◌-◌, [], get_or, refl, arith}
use Rattle.pj_state.specs.Stores.{flat}
use Rattle.pj_state.proofs.Blocks.{Searched, block-found, block-taken, nothing-found, nothing-taken}
use Rattle.pj_state.proofs.places.Places.take.Goals as goal

pub returns-then-behind-eq0-clause-taken : goal.returns-then-behind-eq0-clause-taken
returns-then-behind-eq0-clause-taken c =
    let s : Searched c.args.ticket c.self.inside.blocks.items c.as_slice.result.now c.args.self.now c.split_place_early-behind.result =
    record { same = c.as_slice.ensures.value; whole = c.self.view_is; filled = c.self.invariant; split = c.split_place_early-behind.ensures } in
    nothing-found c.args.ticket c.self.inside.blocks.items c.as_slice.result.now c.args.self.now c.split_place_early-behind.result s c.if-behind-eq0.true

pub returns-then-behind-eq0-clause-left : goal.returns-then-behind-eq0-clause-left
returns-then-behind-eq0-clause-left c =
    let s : Searched c.args.ticket c.self.inside.blocks.items c.as_slice.result.now c.args.self.now c.split_place_early-behind.result =
    record { same = c.as_slice.ensures.value; whole = c.self.view_is; filled = c.self.invariant; split = c.split_place_early-behind.ensures } in
    nothing-taken c.args.ticket c.self.inside.blocks.items c.as_slice.result.now c.args.self.now c.split_place_early-behind.result s c.if-behind-eq0.true

pub returns-clause-taken : goal.returns-clause-taken
returns-clause-taken c =
    let s : Searched c.args.ticket c.self.inside.blocks.items c.as_slice.result.now c.args.self.now c.split_place_early-behind.result =
    record { same = c.as_slice.ensures.value; whole = c.self.view_is; filled = c.self.invariant; split = c.split_place_early-behind.ensures } in
    block-found c.args.ticket c.self.inside.blocks.items c.as_slice.result.now c.args.self.now c.split_place_early-behind.result (c.split_place_early-behind.result - 1)
    (get_or c.self.inside.blocks.items (c.split_place_early-behind.result - 1) []) [] c.take_place.result s (omega arith) refl c.take_place.ensures.taken

pub returns-clause-left : goal.returns-clause-left
returns-clause-left c =
    let s : Searched c.args.ticket c.self.inside.blocks.items c.as_slice.result.now c.args.self.now c.split_place_early-behind.result =
    record { same = c.as_slice.ensures.value; whole = c.self.view_is; filled = c.self.invariant; split = c.split_place_early-behind.ensures } in
    block-taken c.args.ticket c.self.inside.blocks.items c.as_slice.result.now c.args.self.now c.split_place_early-behind.result (c.split_place_early-behind.result - 1)
    (flat c.take_place.new.blocks.items) s (omega arith) c.take_place.ensures.left
