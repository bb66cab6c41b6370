use Rattle.std.proofs.Common.{sym, ◌∙◌}
use Rattle.pj_pattern.proofs.Rows.{matches_not, matches_on}
use Rattle.pj_pattern.proofs.punct.all_match.Goals as goal

pub returns-then-not-matches : goal.returns-then-not-matches
returns-then-not-matches c =
    sym (matches_not c.args.patterns.now c.args.row.now c.loop-i.i c.index-patterns-i.result c.at.result.now c.loop-i.invariant c.loop-i-test.true c.index-patterns-i.is c.at.ensures (sym c.matches.ensures ∙ c.if-not-matches.true))

pub loop-i-preserved : goal.loop-i-preserved
loop-i-preserved c =
    matches_on c.args.patterns.now c.args.row.now c.loop-i.i c.index-patterns-i.result c.at.result.now c.loop-i.invariant c.loop-i-test.true c.index-patterns-i.is c.at.ensures (sym c.matches.ensures ∙ c.if-not-matches.false)
