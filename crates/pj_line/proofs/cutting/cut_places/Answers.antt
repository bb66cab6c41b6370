use Rattle.std.proofs.Common.{◌≡◌, ◌≢◌, ◌≤◌, length, sym, ◌∙◌, arith}
use Rattle.std.proofs.lemmas.Grind.{common_steps}
use Rattle.std.proofs.lemmas.Bool.Decides.{nat_tests}
use Rattle.pj_line.specs.Places.{cells_at}
use Rattle.pj_line.proofs.CellPlaces.{cells_count, within_more}
use Rattle.pj_line.proofs.CutCells.{one_more_place, too_many_cells, fault_is}
use Rattle.pj_line.proofs.cutting.cut_places.Goals as goal

pub returns-then-is_full-clause-err : goal.returns-then-is_full-clause-err
returns-then-is_full-clause-err c =
    let line = c.args.line.now in
    let places = c.loop-place.places.items in
    let full : length places ≡ 128 = grind (arith, nat_tests, common_steps) in
    fault_is line _ c.fault_of-then-is_full.ensures (λ all is. too_many_cells line (cells_at line places) c.loop-place.from _ _ all c.loop-place.invariant.cut c.in-ClosedCell.ensures.0 (sym (cells_count line places) ∙ full) is)

pub loop-place-preserved : goal.loop-place-preserved
loop-place-preserved c =
    let line = c.args.line.now in
    let places = c.loop-place.places.items in
    let room : length places ≢ 128 = grind (arith, nat_tests, common_steps) in
    let next = c.in-ClosedCell.ensures in
    let ordered : c.in-ClosedCell.place.start ≤ c.in-ClosedCell.place.end = omega (arith, next.2) in record {
      cut = rw c.push.ensures.items (one_more_place line places c.loop-place.from c.in-ClosedCell.place c.loop-place.invariant.cut room next.0 next.1 next.2 next.3);
      within = rw c.push.ensures.items (within_more line places c.in-ClosedCell.place c.loop-place.invariant.within (ordered, next.3));
    }
