-- Schemes that are as long as the rows that they speak of.
use Rattle.std.specs.Prelude.{◌≡◌, ◌≤◌, Bool, List, [], ◌∷◌, length, sum}
use Rattle.pj_value.specs.Lists.{In}
use Rattle.pj_shape.specs.Sound.{arities_of}
use Rattle.pj_plan.specs.declared.node.Node.{Node}
use Rattle.pj_plan.specs.declared.node.Node.TheVariants.{Stream, Select, Project, Union, Join, Group}
use Rattle.pj_plan.specs.declared.node.PlanNode.{PlanNode}

-- one list of schemes for each node, each scheme as long as its node's schema
abbrev pub AreAsWide : List PlanNode → List (List (List Bool)) → Type 0
AreAsWide [] [] = Unit {0}
AreAsWide [] (list ∷ lists) = ⊥
AreAsWide (node ∷ nodes) [] = ⊥
AreAsWide (node ∷ nodes) (list ∷ lists) =
    ((marks : List Bool) → In marks list → length marks ≡ length node.schema) × AreAsWide nodes lists

-- a join has at most 120 columns in all
abbrev pub IsNarrow : Node → Type 0
IsNarrow (Stream schemes) = Unit {0}
IsNarrow (Select input test) = Unit {0}
IsNarrow (Project input columns) = Unit {0}
IsNarrow (Union inputs) = Unit {0}
IsNarrow (Join inputs spec) = sum (arities_of spec.inputs) ≤ 120
IsNarrow (Group input spec) = Unit {0}
