use Rattle.std.proofs.Common.{◌<◌, length, arith}
use Rattle.pj_state.proofs.Blocks.{found-in-one}
use Rattle.pj_state.proofs.places.Places.found_at.Goals as goal

pub returns : goal.returns
returns c =
    let there : c.args.block < length c.self.inside.blocks.items = omega (arith, c.if-block-len.false, c.len.ensures, c.self.inside.blocks.ok.0) in
    found-in-one c.args.ticket c.self.inside.blocks.items c.args.self.now c.args.block c.index.result.now c.found_at.result c.self.view_is there c.index.ensures c.found_at.ensures
