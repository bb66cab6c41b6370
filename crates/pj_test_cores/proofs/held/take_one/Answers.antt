use Rattle.std.proofs.Common.{subst}
use Rattle.pj_core.specs.Calls.{CoreTakes}
use Rattle.pj_test_cores.proofs.Holding.{takes}
use Rattle.pj_test_cores.proofs.held.take_one.Goals as goal

pub returns-in-Ok-Some : goal.returns-in-Ok-Some
returns-in-Ok-Some c = takes c.args.core.now c.take.new.self c.in-Ok-Some.probe (subst (CoreTakes c.args.core.now c.take.new.self) c.in-Ok-Some.field-0-is c.in-Ok-Some.ensures.ok)
