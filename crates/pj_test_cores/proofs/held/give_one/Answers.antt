use Rattle.std.proofs.Common.{[], subst, sym}
use Rattle.pj_probe.specs.declared.probe.Found.{Found}
use Rattle.pj_core.specs.Calls.{FitNode}
use Rattle.pj_test_cores.proofs.Holding.{fits, gives, opens}
use Rattle.pj_test_cores.proofs.held.give_one.Goals as goal

pub give-requires-clause-open : goal.give-requires-clause-open
give-requires-clause-open c = opens c.args.core.now c.args.probe [] c.requires

pub give-requires-clause-fits : goal.give-requires-clause-fits
give-requires-clause-fits c =
    λ on. subst (λ (p : Found). FitNode c.args.core.now c.args.probe.join p.rows) (sym c.in-Ok.ensures) (fits c.args.core.now c.args.probe [] c.requires)

pub returns-in-Ok-give : goal.returns-in-Ok-give
returns-in-Ok-give c = λ t. gives c.args.core.now c.give.new.self c.args.probe c.in-Ok.found c.in-Ok.ensures c.in-Ok-give.ensures.ok
