use Rattle.std.proofs.Common.{◌∙◌, None, Some, true, sym, arith}
use Rattle.pj_puncts.proofs.Numbered.{and-true, is_at, not-wild-behind, only-found, only-nowhere}
use Rattle.pj_puncts.proofs.numbers.only_constant.Goals as goal

pub returns-then-column-patterns-clause-none : goal.returns-then-column-patterns-clause-none
returns-then-column-patterns-clause-none c = only-nowhere c.args.patterns.now (omega (arith, c.first_filled-column.ensures, c.if-column-patterns.true))

pub returns-then-not-are_wild_from-clause-none : goal.returns-then-not-are_wild_from-clause-none
returns-then-not-are_wild_from-clause-none c =
    not-wild-behind c.args.patterns.now c.first_filled-column.result c.first_filled-column.ensures c.if-column-patterns.false (sym c.are_wild_from.ensures ∙ c.if-not-are_wild_from.true)

pub returns-in-None-clause-none : goal.returns-in-None-clause-none
returns-in-None-clause-none c =
    only-found c.args.patterns.now c.first_filled-column.result c.index-patterns-column.result None true c.first_filled-column.ensures c.if-column-patterns.false c.index-patterns-column.is c.in-None.ensures.value
    (sym c.if-not-are_wild_from.false ∙ c.are_wild_from.ensures)

pub returns-in-Some-clause-some : goal.returns-in-Some-clause-some
returns-in-Some-clause-some c column value =
    only-found c.args.patterns.now c.first_filled-column.result c.index-patterns-column.result (Some c.in-Some.value.now) true c.first_filled-column.ensures c.if-column-patterns.false c.index-patterns-column.is c.in-Some.ensures.value
    (sym c.if-not-are_wild_from.false ∙ c.are_wild_from.ensures) column value
    ∙ and-true (is_at column value c.first_filled-column.result (Some c.in-Some.value.now))
