-- Plans whose patterns are in normal form.
use Rattle.std.specs.Prelude.{ℕ, ◌<◌, ⊤, List, length}
use Rattle.pj_element.specs.Laws.{AreKeptPatterns}
use Rattle.pj_plan.specs.declared.node.Node.{Node}
use Rattle.pj_plan.specs.declared.node.Node.TheVariants.{Stream, Select, Project, Union, Join, Group}
use Rattle.pj_plan.specs.declared.node.PlanNode.{PlanNode}
use Rattle.pj_plan.specs.Canonical.{node_at}

-- the patterns of a select are in normal form, and their values are storable
abbrev pub IsKeptNode : Node → Type 0
IsKeptNode (Stream schemes) = ⊤
IsKeptNode (Select input test) = AreKeptPatterns test
IsKeptNode (Project input columns) = ⊤
IsKeptNode (Union inputs) = ⊤
IsKeptNode (Join inputs spec) = ⊤
IsKeptNode (Group input spec) = ⊤

-- so is each node's operator
abbrev pub AreKeptNodes : List PlanNode → Type 0
AreKeptNodes nodes = (n : ℕ) → n < length nodes → IsKeptNode (node_at nodes n)
