use Rattle.std.proofs.Common.{rules}
use Rattle.pj_plan.proofs.Remade.{made_again}
use Rattle.pj_plan.proofs.plan.Plan.build.Goals as goal

pub of-requires-clause-made : goal.of-requires-clause-made
of-requires-clause-made c = made_again c.args.statements.now c.args.end c.in_ok-outline.outline c.requires.spelled (search rules)
