use Rattle.pj_flow.specs.Stored.{AreStored}
use Rattle.pj_flow.proofs.stores.fill.Given as goal

abbrev pub invariant-loop-input : goal.invariant-loop-input
invariant-loop-input l = AreStored l.arity l.came 0 l.stores.items
