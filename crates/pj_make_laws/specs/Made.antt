-- What a made input comes to.
use Rattle.std.specs.Prelude.{ℕ, ◌≡◌, ◌≤◌, ◌<◌, ◌^◌, ⊤, Ok, List, [], ◌∷◌, ◌++◌, map, length, codes}
use Rattle.pj_value.specs.declared.values.Value.{Value}
use Rattle.pj_value.specs.Bags.{SameBag}
use Rattle.pj_shape.specs.declared.groups.Agg.TheVariants.{Count, Max}
use Rattle.pj_pattern.specs.declared.element.Element.{Element}
use Rattle.pj_pattern.specs.Patterns.{Pattern}
use Rattle.pj_pattern.specs.Elements.{puncts_of, rows_of}
use Rattle.pj_plan.specs.declared.node.Node.TheVariants.{Group}
use Rattle.pj_plan.specs.declared.node.Outline.{Outline}
use Rattle.pj_plan.specs.declared.node.PlanNode.{PlanNode}
use Rattle.pj_plan.specs.Nodes.{streams_in, streams_of}
use Rattle.pj_plan_text.specs.PlanRead.{plan_read}
use Rattle.pj_algebra.specs.Answers.{answer_of, elements_to}
use Rattle.pj_algebra.specs.Worked.{auction, named, number}
use Rattle.pj_safety.specs.Safety.{IsSafePlan}
use Rattle.pj_report.specs.Sums.{HasSmallEnds, exact_sum, total_of}
use Rattle.pj_feed.specs.Feeds.{accepted_of}
use Rattle.pj_make.specs.Inputs.{bids_text, items_text, plan_text}

-- ---- the plan

-- the auction of the items and the bids, and a group of its join: how many bids each item has, and the highest
abbrev pub made_nodes : List PlanNode
made_nodes =
    auction
    ++ named (codes "g") (number (codes "item") ∷ number (codes "n") ∷ number (codes "top") ∷ []) (Group 2 (record { keys = 0 ∷ []; aggs = Count ∷ Max 3 ∷ [] })) ∷ []

abbrev pub made_plan : Outline
made_plan = record { version = 1; nodes = made_nodes }

-- the text is read as this plan
abbrev pub MadePlanIsRead : Type 0
MadePlanIsRead = plan_read plan_text ≡ Ok made_plan

-- the text has at most 2^20 bytes, and the plan two streams; it is safe
pub record MadePlanFits : Type 0 where
  pub short : length plan_text ≤ 1048576
  pub streams : length (streams_of made_plan.nodes) ≡ 2
  pub safe : IsSafePlan made_plan.nodes

-- ---- the files

abbrev pub made_files : ℕ → ℕ → List (List ℕ)
made_files seed count = items_text count ∷ bids_text seed count ∷ []

-- the elements that are accepted of each file
abbrev pub made_elements : ℕ → ℕ → List (List Element)
made_elements seed count = accepted_of (streams_in made_plan.nodes) (made_files seed count)

-- each file has fewer than 2^40 bytes
pub record MadeFilesAreShort (seed count : ℕ) : Type 0 where
  pub items : length (items_text count) < 2 ^ 40
  pub bids : length (bids_text seed count) < 2 ^ 40

-- in each of these lists are fewer than 2^31 punctuations
abbrev pub HaveFewPuncts : List (List Element) → Type 0
HaveFewPuncts [] = ⊤
HaveFewPuncts (es ∷ lists) = (length (puncts_of es) < 2 ^ 31) × HaveFewPuncts lists

-- so it is with the elements that are accepted, and each list has room for one more
abbrev pub MadePunctsAreFew : ℕ → ℕ → Type 0
MadePunctsAreFew seed count = HaveFewPuncts (made_elements seed count)

-- ---- the limit

-- each of these lists has at most 2^31 punctuations
abbrev pub AreFewPuncts : List (List (List Pattern)) → Type 0
AreFewPuncts [] = ⊤
AreFewPuncts (puncts ∷ lists) = (length puncts ≤ 2 ^ 31) × AreFewPuncts lists

-- to no node come more than 2^40 elements, where these punctuations come at the streams with the rows that are accepted
abbrev pub StayBelow : ℕ → ℕ → List (List (List Pattern)) → Type 0
StayBelow seed count puncts = (node : ℕ) → elements_to made_plan.nodes (map rows_of (made_elements seed count)) puncts node ≤ 2 ^ 40

-- so it is, whatever punctuations these are, as long as they are few
abbrev pub MadeIsWithinLimits : ℕ → ℕ → Type 0
MadeIsWithinLimits seed count = (puncts : List (List (List Pattern))) → AreFewPuncts puncts → StayBelow seed count puncts

-- ---- the total

-- the answer over the rows that are accepted
abbrev pub made_answer : ℕ → ℕ → List (List Value)
made_answer seed count = answer_of made_plan.nodes (map rows_of (made_elements seed count))

-- it has at most 2^31 rows, and the number in the last column of each is from 0 to 2^31
pub record MadeAnswerIsSmall (seed count : ℕ) : Type 0 where
  pub few : length (made_answer seed count) ≤ 2 ^ 31
  pub ends : HasSmallEnds (made_answer seed count)

-- where outputs have the rows of that answer, each as often, their total is the exact sum
abbrev pub MadeTotalIsExact : ℕ → ℕ → Type 0
MadeTotalIsExact seed count = (outputs : List Element) → SameBag (rows_of outputs) (made_answer seed count) → total_of outputs ≡ exact_sum (rows_of outputs)
