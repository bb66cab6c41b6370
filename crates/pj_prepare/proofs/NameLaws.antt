-- The names of a plan's nodes, and how many its streams are.
use Rattle.std.proofs.Common.{◌≡◌, ◌≤◌, ℕ, true, List, length, flat_map, refl, inl, inr, arith}
use Rattle.std.proofs.lemmas.Bool.{and_parts}
use Rattle.pj_value.specs.Lists.{In}
use Rattle.pj_value.proofs.Members.{In-append_left, In-flat_map_from, all_at, all_from}
use Rattle.pj_plan.specs.declared.node.Node.{Node}
use Rattle.pj_plan.specs.declared.node.Node.TheVariants.{Stream, Select, Project, Union, Join, Group}
use Rattle.pj_plan.specs.declared.node.PlanNode.{PlanNode}
use Rattle.pj_plan.specs.declared.node.Outline.{Outline}
use Rattle.pj_plan.specs.Names.{is_name, is_column_name, is_word, begins_small, is_spelled}
use Rattle.pj_plan.specs.Nodes.{streams_of}
use Rattle.pj_plan.specs.Canonical.{declaration, node_statements, statements_of}
use Rattle.pj_plan.specs.Kept.{IsMadeAgain}
use Rattle.pj_plan.specs.Sound.{IsSoundPlan}
use Rattle.pj_run.specs.PlanNames.{HasShortNames, is_short}
use Rattle.pj_feed.proofs.StreamNodes.{count_numbers, few-streams}

-- ---- how many streams there are

-- few nodes have few streams
pub few_numbers : (nodes : List PlanNode) → IsSoundPlan nodes → length (streams_of nodes) ≤ 64
few_numbers nodes sound = let few = few-streams nodes sound in let count = count_numbers nodes in omega (arith, few, count)

-- ---- plain names

plain : (name : List ℕ) → is_name name ≡ true → is_short name ≡ true
plain name e = (and_parts (begins_small name) (is_short name) (and_parts (is_word name) _ (and_parts (is_column_name name) _ e).0).0).1

plain_of : (nodes : List PlanNode) (x : PlanNode) (node : Node) → is_spelled (declaration nodes x node) ≡ true → is_short x.name ≡ true
plain_of nodes x (Stream schemes) e = plain x.name (and_parts (is_name x.name) _ e).0
plain_of nodes x (Select input test) e = plain x.name (and_parts (is_name x.name) _ (and_parts _ _ e).0).0
plain_of nodes x (Project input columns) e = plain x.name (and_parts (is_name x.name) _ (and_parts _ _ e).0).0
plain_of nodes x (Union inputs) e = plain x.name (and_parts (is_name x.name) _ e).0
plain_of nodes x (Join inputs spec) e = plain x.name (and_parts (is_name x.name) _ (and_parts _ _ e).0).0
plain_of nodes x (Group input spec) e = plain x.name (and_parts (is_name x.name) _ (and_parts _ _ e).0).0

-- the statement that declares a node can be spelled
declared : (plan : Outline) (node : PlanNode) → IsMadeAgain plan → In node plan.nodes → is_spelled (declaration plan.nodes node node.node) ≡ true
declared plan node made there =
    all_at is_spelled (statements_of plan) (declaration plan.nodes node node.node) made.spelled
    (inr (In-append_left (declaration plan.nodes node node.node) (flat_map (node_statements plan.nodes) plan.nodes) _
    (In-flat_map_from (node_statements plan.nodes) (declaration plan.nodes node node.node) node plan.nodes there (inl refl))))

-- the names of a plan that is made again by its canonical statements
pub plain_names : (plan : Outline) → IsMadeAgain plan → HasShortNames plan.nodes
plain_names plan made = all_from (λ node. is_short node.name) plan.nodes (λ node there. plain_of plan.nodes node node.node (declared plan node made there))
