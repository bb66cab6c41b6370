-- What is told of a plan: of each node that is a join, in order of declaration, and each of its inputs in order.
use Rattle.std.specs.Prelude.{ℕ, Bool, true, false, List, [], ◌∷◌, ◌++◌, Option, Some, None, flat_map, length, map}
use Rattle.std.specs.List.{concat, range_with_len}
use Rattle.pj_value.specs.declared.values.Value.{Value}
use Rattle.pj_shape.specs.Columns.{domains_of}
use Rattle.pj_plan.specs.declared.node.Node.{Node}
use Rattle.pj_plan.specs.declared.node.Node.TheVariants.{Stream, Select, Project, Union, Join, Group}
use Rattle.pj_plan.specs.declared.node.PlanNode.{PlanNode}
use Rattle.pj_plan.specs.declared.node.Outline.{Outline}
use Rattle.pj_plan.specs.Canonical.{node_at, statements_of}
use Rattle.pj_plan_text.specs.Spelling.{fed, plan_spelling}
use Rattle.pj_graph.specs.declared.answers.Reach.{Reach}
use Rattle.pj_graph.specs.declared.answers.Reach.TheVariants.{All, Stuck}
use Rattle.pj_graph.specs.Saturation.{reach_of}
use Rattle.pj_cert.specs.Escaping.{escape_rows}
use Rattle.pj_cert.specs.Instances.{blank_instances_of, blanks}
use Rattle.pj_cert.specs.Laws.{schema_of}
use Rattle.pj_cert.specs.Partners.{partners_of}
use Rattle.pj_cert.specs.Verdicts.{verdict_of, whole_text}
use Rattle.pj_safety.specs.declared.risk.PlanRisk.{PlanRisk}
use Rattle.pj_safety.specs.Safety.{IsFirstRisk, IsSafePlan}
use Rattle.pj_judge.specs.Asked.{Asked, asked_of, stuck_lines}

-- ---- one input

-- the row of a stuck input whose partners are told: 0 and the empty text, by the kinds of its columns
abbrev pub lone_row : Asked → ℕ → List Value
lone_row asked input = blanks (domains_of (schema_of asked.spec input))

-- the rows with which it is stuck, where these inputs are reached: they join, and escape the instances whose constants are blank
abbrev pub partner_rows : Asked → ℕ → List ℕ → List (List Value)
partner_rows asked input reached =
    escape_rows asked.spec input reached (lone_row asked input) (blank_instances_of asked.spec asked.schemes reached)

-- the line of its certificate, or those of what it cannot reach and what it reaches
abbrev pub verdict_lines : Asked → ℕ → Reach → List (List ℕ)
verdict_lines asked input (All cert) = whole_text asked.schemes asked.name asked.names input cert ∷ []
verdict_lines asked input (Stuck reached missing) = stuck_lines asked input missing reached

-- behind the lines of a stuck input, one for each other input
abbrev pub partner_lines : Asked → ℕ → Reach → List (List ℕ)
partner_lines asked input (All cert) = []
partner_lines asked input (Stuck reached missing) = partners_of asked.names input (partner_rows asked input reached)

-- the lines of an input that reaches this
abbrev pub told_lines : Asked → ℕ → Reach → List (List ℕ)
told_lines asked input found = verdict_lines asked input found ++ partner_lines asked input found

-- the same as one text
abbrev pub told_of : Asked → ℕ → Reach → List ℕ
told_of asked input found = verdict_of asked.schemes asked.name asked.names input found ++ concat (partner_lines asked input found)

-- the lines of an input of the join
abbrev pub input_lines : Asked → ℕ → List (List ℕ)
input_lines asked input = told_lines asked input (reach_of asked.spec asked.schemes input)

-- ---- all inputs of a join, and all nodes

-- the lines of so many inputs of the join, the first ones, in order
abbrev pub inputs_lines : Asked → ℕ → List (List ℕ)
inputs_lines asked count = flat_map (input_lines asked) (range_with_len 0 count)

-- those of all its inputs
abbrev pub asked_lines : Asked → List (List ℕ)
asked_lines asked = inputs_lines asked (length asked.spec.inputs)

-- those of an operator, of which this is asked if it is a join: of another there are none
abbrev pub operator_lines : Node → Asked → List (List ℕ)
operator_lines (Stream schemes) asked = []
operator_lines (Select input test) asked = []
operator_lines (Project input columns) asked = []
operator_lines (Union inputs) asked = []
operator_lines (Join inputs spec) asked = asked_lines asked
operator_lines (Group input spec) asked = []

-- those of the node of this number
abbrev pub node_lines : List PlanNode → ℕ → List (List ℕ)
node_lines nodes n = operator_lines (node_at nodes n) (asked_of nodes n)

-- those of so many nodes, the first ones, in order
abbrev pub nodes_lines : List PlanNode → ℕ → List (List ℕ)
nodes_lines nodes count = flat_map (node_lines nodes) (range_with_len 0 count)

-- ---- the whole

-- the lines of the canonical plan, where it is to be printed
abbrev pub plan_lines : Bool → Outline → List (List ℕ)
plan_lines true plan = map fed (statements_of plan)
plan_lines false plan = []

-- the same as one text
abbrev pub printed : Bool → Outline → List ℕ
printed true plan = plan_spelling plan
printed false plan = []

-- the lines that tell of a plan: its own, where they are to be printed, and then those of each node
abbrev pub check_lines : Bool → Outline → List (List ℕ)
check_lines print plan = plan_lines print plan ++ nodes_lines plan.nodes (length plan.nodes)

-- the plan is safe; or this is its first node at a risk, and its risk
abbrev pub IsAnswer : List PlanNode → Option (ℕ × PlanRisk) → Type 0
IsAnswer nodes None = IsSafePlan nodes
IsAnswer nodes (Some (n, risk)) = IsFirstRisk nodes n risk
