use Rattle.std.proofs.Common.{rules, ap, sym, ◌∙◌}
use Rattle.pj_operator.specs.declared.operator.OperatorState.TheVariants.{Join as RunningJoin}
use Rattle.pj_operator.proofs.operator.OperatorState.as_join_mut.Goals as goal

pub returns-in-Join : goal.returns-in-Join
returns-in-Join c = (rw c.in-Join.is, record { lends = tt; join = c.in-Join.is ∙ ap RunningJoin (sym c.in-Join.join-is); none = search rules })
