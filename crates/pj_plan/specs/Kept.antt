-- What a plan keeps beside its nodes, and what is known of it.
use Rattle.std.specs.Prelude.{ℕ, ◌≡◌, ◌<◌, List, Option, Some, Ok, length, slice_get}
use Rattle.pj_plan.specs.declared.node.Outline.{Outline}
use Rattle.pj_plan.specs.Sound.{IsSoundPlan}
use Rattle.pj_plan.specs.Nodes.{streams_of, joins_of, parent_of}
use Rattle.pj_plan.specs.Names.{AreSpelled}
use Rattle.pj_plan.specs.Built.{built}
use Rattle.pj_plan.specs.Canonical.{statements_of, lines_from}

-- a line can spell each canonical statement of the plan, and all of them, a line for each, make it again
pub record IsMadeAgain (plan : Outline) : Type 0 where
  pub spelled : AreSpelled (statements_of plan)
  pub again : (end : ℕ) → built (lines_from 1 (statements_of plan)) end ≡ Ok plan

-- the plan is sound, and its canonical statements make it again; the numbers of the streams and joins, and where each node
-- leads, are those of its nodes
pub record IsKept (plan : Outline) (streams joins : List ℕ) (parents : List (Option (ℕ × ℕ))) : Type 0 where
  pub sound : IsSoundPlan plan.nodes
  pub made : IsMadeAgain plan
  pub all_streams : streams ≡ streams_of plan.nodes
  pub all_joins : joins ≡ joins_of plan.nodes
  pub count : length parents ≡ length plan.nodes
  pub each_parent : (n : ℕ) → n < length plan.nodes → slice_get parents n ≡ Some (parent_of plan.nodes n)
