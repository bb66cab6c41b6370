-- The nodes of a core to which nothing has come.
use Rattle.std.specs.Prelude.{ℕ, ◌+◌, if◌then◌else◌, []}
use Rattle.pj_plan.specs.declared.node.Node.{Node as Operation}
use Rattle.pj_plan.specs.Nodes.{is_join}
use Rattle.pj_events.specs.Join.{AreCertified, start}
use Rattle.pj_events.specs.KeptState.{kept_of}
use Rattle.pj_events.specs.Tables.{table_of}
use Rattle.pj_flow.specs.Unions.{start as no_puncts}
use Rattle.pj_operator.specs.declared.operator.RunningOperator.{RunningOperator}
use Rattle.pj_operator.specs.declared.operator.OperatorState.{OperatorState}
use Rattle.pj_operator.specs.declared.operator.OperatorState.TheVariants.{Stream as RunningStream, Select as RunningSelect, Project as RunningProject, Union as RunningUnion, Join as RunningJoin, Group as RunningGroup}
use Rattle.pj_operator.specs.Operators.{Frame, GroupKind, JoinKind, Kind, ProjectKind, SelectKind, StreamKind, UnionKind}

abbrev pub fresh_state : Kind → OperatorState
fresh_state StreamKind = RunningStream
fresh_state (SelectKind test) = RunningSelect test
fresh_state (ProjectKind columns) = RunningProject columns
fresh_state (UnionKind n arity) = RunningUnion (record { inputs = n; arity = arity; state = no_puncts })
fresh_state (JoinKind node spec limit) = RunningJoin (record { node = node; spec = spec; limit = limit; kept = kept_of start })
fresh_state (GroupKind spec limit) = RunningGroup (record { spec = spec; limit = limit; count = 0; table = table_of spec [] })

abbrev pub fresh_operator : Frame → RunningOperator
fresh_operator frame = record { state = fresh_state frame.kind; above = frame.above; width = frame.width; peak = 0 }

-- each input of a join has a certificate
abbrev pub IsCertifiedKind : Kind → Type 0
IsCertifiedKind StreamKind = Unit {0}
IsCertifiedKind (SelectKind test) = Unit {0}
IsCertifiedKind (ProjectKind columns) = Unit {0}
IsCertifiedKind (UnionKind n arity) = Unit {0}
IsCertifiedKind (JoinKind node spec limit) = AreCertified spec
IsCertifiedKind (GroupKind spec limit) = Unit {0}

-- how many joins there are with this node, where so many stand before it
abbrev pub joins_with : Operation → ℕ → ℕ
joins_with node joins = if is_join node then joins + 1 else joins
