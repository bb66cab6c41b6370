-- A worked plan through the definitions: a project that drops a scheme, a union that drops one, a join, and a group that drops one.
use Rattle.std.proofs.Common.{◌≡◌, Bool, true, false, List, [], ◌∷◌, refl}
use Rattle.pj_value.specs.declared.values.Kind.TheVariants.{Int}
use Rattle.pj_shape.specs.declared.columns.Column.{Column}
use Rattle.pj_shape.specs.declared.groups.Agg.TheVariants.{Count}
use Rattle.pj_plan.specs.declared.node.Node.{Node}
use Rattle.pj_plan.specs.declared.node.Node.TheVariants.{Stream, Select, Project, Union, Join, Group}
use Rattle.pj_plan.specs.declared.node.PlanNode.{PlanNode}
use Rattle.pj_scheme.specs.Derived.{schemes_of}

abbrev unnamed : Node → PlanNode
unnamed node = record { name = []; schema = []; node = node }

abbrev pair : List Column
pair = record { name = []; kind = Int } ∷ record { name = []; kind = Int } ∷ []

abbrev first : List Bool
first = true ∷ false ∷ []

abbrev second : List Bool
second = false ∷ true ∷ []

abbrev both : List Bool
both = true ∷ true ∷ []

-- a stream with two schemes, a select of it, a project to its first column twice, another stream, their union, a third stream,
-- a join of these, and a group of it by its third and its first column
abbrev nodes : List PlanNode
nodes =
    unnamed (Stream (first ∷ second ∷ [])) ∷ unnamed (Select 0 []) ∷ unnamed (Project 1 (0 ∷ 0 ∷ [])) ∷ unnamed (Stream (first ∷ [])) ∷ unnamed (Union (2 ∷ 3 ∷ []))
    ∷ unnamed (Stream (first ∷ [])) ∷ unnamed (Join (4 ∷ 5 ∷ []) (record { inputs = pair ∷ pair ∷ []; classes = [] }))
    ∷ unnamed (Group 6 (record { keys = 2 ∷ 0 ∷ []; aggs = Count ∷ [] })) ∷ []

worked : schemes_of nodes
    ≡ (first ∷ second ∷ []) ∷ (first ∷ second ∷ []) ∷ (both ∷ []) ∷ (first ∷ []) ∷ (both ∷ []) ∷ (first ∷ [])
    ∷ ((true ∷ true ∷ false ∷ false ∷ []) ∷ (false ∷ false ∷ true ∷ false ∷ []) ∷ []) ∷ ((true ∷ false ∷ false ∷ []) ∷ []) ∷ []
worked = refl
