use Rattle.std.proofs.Common.{◌<◌, length, ap, arith}
use Rattle.pj_line.proofs.CellPlaces.{cells_count, cell_of_place, place_within}
use Rattle.pj_line.proofs.cell.Cells.cell.Goals as goal

pub cell_of-requires : goal.cell_of-requires
cell_of-requires c =
    let lt : c.args.at < length c.self.inside.places.items = omega (arith, c.requires, ap length c.self.view_is, cells_count c.self.inside.line.now c.self.inside.places.items) in
    rw c.deref.ensures.0 (place_within c.self.inside.line.now c.self.inside.places.items c.args.at _ c.self.invariant lt)

pub returns : goal.returns
returns c =
    let lt : c.args.at < length c.self.inside.places.items = omega (arith, c.requires, ap length c.self.view_is, cells_count c.self.inside.line.now c.self.inside.places.items) in
    rw (← c.self.view_is) (cell_of_place c.self.inside.line.now c.self.inside.places.items c.args.at _ c.cell_of.result lt (rw c.deref.ensures.0 at c.cell_of.ensures))
