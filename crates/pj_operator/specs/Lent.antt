-- A node lends its join for a change.
use Rattle.std.specs.Prelude.{Option}
use Rattle.std.specs.Borrow.{Fml, LendsIf, MutBor}
use Rattle.pj_join.specs.Joins.{JoinView}
use Rattle.pj_join.specs.contracts.join.Join.{the_row as join_row}
use Rattle.pj_operator.specs.contracts.operator.OperatorState.{the_row}
use Rattle.pj_operator.specs.declared.operator.OperatorState.{OperatorState}
use Rattle.pj_operator.specs.declared.operator.OperatorState.TheVariants.{Stream as RunningStream, Select as RunningSelect, Project as RunningProject, Union as RunningUnion, Join as RunningJoin, Group as RunningGroup}

-- the node is no join
abbrev pub HasNoJoin : OperatorState → Type 0
HasNoJoin RunningStream = Unit {0}
HasNoJoin (RunningSelect test) = Unit {0}
HasNoJoin (RunningProject columns) = Unit {0}
HasNoJoin (RunningUnion union) = Unit {0}
HasNoJoin (RunningJoin join) = ⊥
HasNoJoin (RunningGroup group) = Unit {0}

-- the node ends as the join that is left behind the reference, or as it was
abbrev pub LendsJoin : MutBor OperatorState → Option (MutBor JoinView) → Fml
LendsJoin node join = LendsIf the_row join_row node join (λ left. RunningJoin left) node.now
