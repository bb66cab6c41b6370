use Rattle.std.proofs.Common.{◌≡◌, ◌+◌, suc, true, false, Some, drop, ap, ◌∙◌, arith}
use Rattle.pj_puncts.specs.Givens.{first_marked}
use Rattle.pj_puncts.proofs.Lent.{drop_here}
use Rattle.pj_puncts.proofs.one_cell.first_marked.Goals as goal

pub returns-then-at : goal.returns-then-at
returns-then-at c =
    let first : first_marked (drop c.loop-column.column c.args.scheme.now) ≡ 0 = ap first_marked (drop_here c.args.scheme.now c.loop-column.column true (c.at.ensures ∙ ap Some c.if-at.true)) in
    omega (arith, c.loop-column.invariant, first)

pub loop-column-preserved : goal.loop-column-preserved
loop-column-preserved c =
    let column = c.loop-column.column in
    let scheme = c.args.scheme.now in
    let later : first_marked (drop column scheme) ≡ suc (first_marked (drop (column + 1) scheme)) = ap first_marked (drop_here scheme column false (c.at.ensures ∙ ap Some c.if-at.false)) in
    let kept : first_marked scheme ≡ column + 1 + first_marked (drop (column + 1) scheme) = omega (arith, c.loop-column.invariant, later) in
    kept
