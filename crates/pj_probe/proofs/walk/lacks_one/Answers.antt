use Rattle.std.proofs.Common.{sym, ◌∙◌}
use Rattle.pj_probe.proofs.Placing.{lacks-here}
use Rattle.pj_probe.proofs.walk.lacks_one.Goals as goal

pub returns-then-count-eq0 : goal.returns-then-count-eq0
returns-then-count-eq0 g c = λ t. lacks-here g.S.Candidates.pairs c.args.sides.now c.loop-side.side-index c.side-item.result c.loop-side-test.true c.side-item.is (sym c.count.ensures ∙ c.if-count-eq0.true)
