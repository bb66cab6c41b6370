use Rattle.std.proofs.Common.{◌≡◌, ◌<◌, ◌+◌, false, get_or, drop, length, arith}
use Rattle.std.proofs.lemmas.Grind.{common_steps}
use Rattle.pj_line.specs.Lines.{is_blank}
use Rattle.pj_line.proofs.CutCells.{begins_at, next_cut}
use Rattle.pj_line.proofs.cutting.cell_ahead.Goals as goal

pub returns-in-Some : goal.returns-in-Some
returns-in-Some c =
    let line = c.args.line.now in
    let rest = c.split_at-2.result.1.now in
    let is_rest : rest ≡ drop (c.args.from + c.count_blanks.result) line = c.split_at-2.ensures.back in
    let some : 0 < length rest = grind (arith, common_steps) in
    let begins : is_blank (get_or rest 0 0) ≡ false = begins_at line _ rest c.args.from _ c.split_at.ensures.back is_rest (c.count_blanks.ensures.begins (omega (arith, c.split_at.ensures.back_len, c.split_at-2.ensures.back_len))) in
    let cut = c.in-Some.ensures.cut in (
      next_cut line c.split_at.result.1.now rest c.args.from _ c.in-Some.len c.split_at.ensures.back is_rest c.count_blanks.ensures.same some begins cut.1,
      omega arith,
      omega (arith, c.in-Some.ensures.some some),
      omega (arith, cut.0, c.split_at-2.ensures.back_len),
    )
