-- The answer over the nodes that run is the plan's own.
use Rattle.std.specs.Prelude.{◌≡◌, ℕ, List}
use Rattle.pj_value.specs.declared.values.Value.{Value}
use Rattle.pj_events.specs.Patterns.{Pattern}
use Rattle.pj_events.specs.Plan.{operator_at}
use Rattle.pj_events.specs.Outcomes.{answer_of as answer_over, answers_of as answers_over, counts}
use Rattle.pj_events.specs.Punctuations.{puncts_answer as puncts_over, puncts_answers as all_puncts_over}
use Rattle.pj_laws.specs.Reaching.{elements_to as elements_over}
use Rattle.pj_plan.specs.Canonical.{node_at}
use Rattle.pj_algebra.specs.Answers.{answer_of, elements_to, is_counted, punctuations_of, puncts_by_node, rows_by_node}
use Rattle.pj_core.specs.Plans.{RunPlan, nodes_of}

-- The answer of a plan over the nodes that it is run by is that over its own nodes, and so are the rows of each node: operators,
-- with their states, schemes and certificates, add nothing
pub record AnswersArePlain (plan : RunPlan) (lists : List (List (List Value))) : Type 0 where
  pub answer : answer_over (nodes_of plan) lists ≡ answer_of plan.nodes lists
  pub nodes : answers_over (nodes_of plan) lists ≡ rows_by_node plan.nodes lists

-- the same of its punctuations
pub record PunctuationsArePlain (plan : RunPlan) (lists : List (List (List Pattern))) : Type 0 where
  pub output : puncts_over (nodes_of plan) lists ≡ punctuations_of plan.nodes lists
  pub nodes : all_puncts_over (nodes_of plan) lists ≡ puncts_by_node plan.nodes lists

-- and so is the number of elements that come to a node in all
abbrev pub CountsArePlain : RunPlan → List (List (List Value)) → List (List (List Pattern)) → Type 0
CountsArePlain plan rows puncts = (node : ℕ) → elements_over (nodes_of plan) rows puncts node ≡ elements_to plan.nodes rows puncts node

-- the joins and groups among its own nodes are those that count what reaches them
abbrev pub CountedArePlain : RunPlan → Type 0
CountedArePlain plan = (node : ℕ) → counts (operator_at (nodes_of plan) node) ≡ is_counted (node_at plan.nodes node)
