use Rattle.std.proofs.Common.{◌∙◌, sym}
use Rattle.pj_recheck.proofs.Elsewhere.{elsewhere_not, elsewhere_on}
use Rattle.pj_recheck.proofs.due_rechecks.is_wild_elsewhere.Goals as goal

pub returns-then-not-is_marked_or_wild : goal.returns-then-not-is_marked_or_wild
returns-then-not-is_marked_or_wild c =
    sym (elsewhere_not c.args.scheme.now c.args.punct.now c.loop-column.column c.at-mark.result.now c.at-pattern.result.now c.loop-column.invariant c.at-mark.ensures c.at-pattern.ensures (sym c.is_marked_or_wild.ensures ∙ c.if-not-is_marked_or_wild.true))

pub loop-column-preserved : goal.loop-column-preserved
loop-column-preserved c =
    elsewhere_on c.args.scheme.now c.args.punct.now c.loop-column.column c.at-mark.result.now c.at-pattern.result.now c.loop-column.invariant c.at-mark.ensures c.at-pattern.ensures (sym c.is_marked_or_wild.ensures ∙ c.if-not-is_marked_or_wild.false)
