use Rattle.std.proofs.Common.{◌≡◌, ◌+◌, ◌<◌, true, length, drop, ap, sym, ◌∙◌, arith}
use Rattle.pj_puncts.specs.Givens.{first_marked, none_marked, only_marked}
use Rattle.pj_puncts.proofs.SingleCell.{only_at}
use Rattle.pj_puncts.proofs.one_cell.only_mark.Goals as goal

pub returns : goal.returns
returns c =
    let scheme = c.args.scheme.now in
    let lt : first_marked scheme < length scheme = omega (arith, c.if-column-len.false, c.len.ensures, c.first_marked-column.ensures) in
    let none : none_marked (drop (first_marked scheme + 1) scheme) ≡ true = ap (λ i. none_marked (drop (i + 1) scheme)) (sym c.first_marked-column.ensures) ∙ (sym c.none_marked_from.ensures ∙ c.if-not-none_marked_from.false) in
    ap (λ i. only_marked i scheme) c.first_marked-column.ensures ∙ only_at scheme lt none
