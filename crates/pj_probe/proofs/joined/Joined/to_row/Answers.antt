use Rattle.std.proofs.Common.{◌∙◌, ◌<◌, length, sym}
use Rattle.pj_probe.proofs.Whole.{one-row-more, two-rows}
use Rattle.pj_probe.proofs.joined.Joined.to_row.Goals as goal

pub returns-then-count-eq2 : goal.returns-then-count-eq2
returns-then-count-eq2 c =
    c.in_ok-row.ensures ∙ two-rows c.args.self.now c.part.result.now c.part-then-count-eq2.result.now (sym c.parts-count.ensures ∙ c.if-count-eq2.true) c.part.ensures c.part-then-count-eq2.ensures

pub loop-input-preserved : goal.loop-input-preserved
loop-input-preserved c =
    let there : c.loop-input.input < length c.args.self.now = rw (← c.parts-count.ensures) c.loop-input-test.true in
    one-row-more c.args.self.now c.loop-input.input c.nth.result.now c.loop-input.values c.join_to.new.parts there c.nth.ensures c.loop-input.invariant c.in_ok-join_to.ensures.ok
