use Rattle.std.proofs.Common.{refl}
use Rattle.pj_test_cores.proofs.Holding.{ends}
use Rattle.pj_test_cores.proofs.held.end_both.Goals as goal

pub returns : goal.returns
returns c = λ t. ends c.args.core.now c.end.new.core c.end-2.new.core c.requires (c.if-not-end.ensures refl) (c.end-2.ensures t)
