use Rattle.std.proofs.Common.{◌-◌, arith}
use Rattle.std.proofs.lemmas.Bool.{leb-false}
use Rattle.pj_recheck.proofs.Picked.{last_below}
use Rattle.pj_join.proofs.settling.has_young.Goals as goal

pub returns : goal.returns
returns c = λ none. last_below c.args.state.now.rows (c.len-count.result - 1) c.args.from _ c.len-count.ensures.rising c.nth-last.ensures (omega (arith, c.len-count.ensures.len, c.if-count-eq0.false)) (leb-false c.args.from c.nth-last.result.0 none)
