use Rattle.std.proofs.Common.{List, sym, subst}
use Rattle.pj_puncts.specs.Stores.{Store}
use Rattle.pj_flow.specs.Stored.{AreStored}
use Rattle.pj_flow.proofs.Storing.{filled}
use Rattle.pj_flow.proofs.stores.fill.Goals as goal

pub loop-input-preserved : goal.loop-input-preserved
loop-input-preserved c =
    subst (λ (stores : List Store). AreStored c.args.arity c.args.came.now 0 stores) (sym c.in_ok-push.ensures.items)
    (filled c.args.arity c.args.came.now 0 c.loop-input.stores.items c.in_ok-new.field-0 c.loop-input.invariant c.if-came-gt0.false c.in_ok-new.ensures.0 c.in_ok-new.ensures.1)
