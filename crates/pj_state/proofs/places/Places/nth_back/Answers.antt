use Rattle.std.proofs.Common.{◌-◌, subst, sym, ◌∙◌, ap, arith}
use Rattle.std.specs.Prelude.{slice_get}
use Rattle.pj_state.proofs.Blocks.{IsBefore, before-here, before-less}
use Rattle.pj_state.proofs.places.Places.nth_back.Goals as goal

pub returns-then-left-len : goal.returns-then-left-len
returns-then-left-len c =
    before-here c.self.inside.blocks.items c.args.self.now c.args.at c.loop-behind.behind c.loop-behind.left (c.loop-behind.behind - 1) c.index-block.result.now c.at.result
    c.self.view_is c.loop-behind.invariant (omega (arith, c.loop-behind-test.true)) c.index-block.ensures (omega (arith, c.if-left-len.true, c.len-len.ensures))
    (ap (λ n. slice_get c.index-block.result.now (n - 1 - c.loop-behind.left)) (sym c.len-len.ensures) ∙ c.at.ensures)

pub loop-behind-preserved : goal.loop-behind-preserved
loop-behind-preserved c =
    subst (λ n. IsBefore c.self.inside.blocks.items c.args.at (c.loop-behind.behind - 1) (c.loop-behind.left - n)) (sym c.len-len.ensures)
    (before-less c.self.inside.blocks.items c.args.at c.loop-behind.behind c.loop-behind.left (c.loop-behind.behind - 1) c.index-block.result.now
    c.loop-behind.invariant (omega (arith, c.loop-behind-test.true)) c.index-block.ensures (omega (arith, c.if-left-len.false, c.len-len.ensures)))
