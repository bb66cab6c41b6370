use Rattle.std.proofs.Common.{◌<◌, sym, ◌∙◌, arith}
use Rattle.pj_puncts.proofs.Chains.{halved-end, halved-none}
use Rattle.pj_puncts.proofs.index.first_in_chain.Goals as goal

pub loop-low-preserved-in-None : goal.loop-low-preserved-in-None
loop-low-preserved-in-None g c =
    let middle = c.next_place-middle.result in
    let lt : middle < c.loop-low.high = c.next_place-middle.ensures.below in
    halved-none c.args.kept.now (g.C.Cells.cells c.args.cells.now) c.args.places.now c.loop-low.low c.loop-low.high middle c.loop-low.found c.requires.grows c.loop-low.invariant lt (sym c.number_at.ensures ∙ c.in-None.is)

pub returns : goal.returns
returns g c = halved-end c.args.kept.now (g.C.Cells.cells c.args.cells.now) c.args.places.now c.loop-low.low c.loop-low.high c.loop-low.found c.loop-low.invariant (omega (arith, c.loop-low-test.false))
