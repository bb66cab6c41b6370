use Rattle.std.proofs.Common.{sym, ◌∙◌}
use Rattle.pj_intervals.proofs.Levels.{looks_on, looks_up}
use Rattle.pj_intervals.proofs.index.first_in.Goals as goal

pub returns-in-Some : goal.returns-in-Some
returns-in-Some c = looks_up c.args.levels.now c.loop-level.level-index c.as_slice.result.now c.level-item.result c.args.value.now c.in-Some.place c.loop-level-test.true (c.as_slice.ensures ∙ c.level-item.is) c.loop-level.invariant (λ sorted. sym c.in-Some.is ∙ c.place_at.ensures sorted)

pub loop-level-preserved : goal.loop-level-preserved
loop-level-preserved c = looks_on c.args.levels.now c.loop-level.level-index c.as_slice.result.now c.level-item.result c.args.value.now c.loop-level-test.true (c.as_slice.ensures ∙ c.level-item.is) c.loop-level.invariant (λ sorted. sym c.in-None.is ∙ c.place_at.ensures sorted)
