use Rattle.std.proofs.Common.{◌∙◌, sym}
use Rattle.pj_puncts.proofs.Columns.{only_filled_is}
use Rattle.pj_puncts.proofs.index.only_filled.Goals as goal

pub returns : goal.returns
returns c = only_filled_is c.args.patterns.now c.first_filled-column.result c.first_filled-column.ensures c.if-column-patterns.false (sym c.are_wild_from.ensures ∙ c.if-not-are_wild_from.false)
