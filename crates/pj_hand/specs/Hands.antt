-- What contracts see of a hand, and the histories that it stands for.
use Rattle.std.specs.Prelude.{ℕ, ◌≡◌, List, Option, None}
use Rattle.pj_value.specs.Lists.{In, has}
use Rattle.pj_events.specs.declared.events.Entry.{Entry}
use Rattle.pj_events.specs.declared.events.Stop.{Stop}
use Rattle.pj_plan.specs.Sound.{IsSoundPlan}
use Rattle.pj_probe.specs.declared.probe.Found.{Found}
use Rattle.pj_core.specs.Calls.{AreResults}
use Rattle.pj_core.specs.Cores.{CoreState, StandsFor, nodes_after}
use Rattle.pj_script.specs.Playing.{under_way_at}
use Rattle.pj_hand.specs.Held.{AreInOrder, holds}

-- its core, and what the work of each probe finds that was taken from it and is not given
pub record HandState : Type 0 where
  pub core : CoreState
  pub taken : List Found

-- The probes are held in order of join and ticket. A probe is held exactly where its ticket is under way, and its rows are the
-- results of the ticket
pub record HoldsUnderWay (hand : HandState) (history : List Entry) : Type 0 where
  pub ordered : AreInOrder hand.taken
  pub those : (join ticket : ℕ) → holds hand.taken join ticket ≡ has (under_way_at (nodes_after hand.core history) join) ticket
  pub finds : (probe : Found) → In probe hand.taken → AreResults hand.core history probe probe

-- the core stands for the history, and while nothing stopped the hand holds what is under way there
pub record HandStandsFor (hand : HandState) (history : List Entry) : Type 0 where
  pub stands : StandsFor hand.core history
  pub held : hand.core.kept.stop ≡ None → HoldsUnderWay hand history

-- the hand stands for a history
abbrev pub StandsForOne : HandState → Type 0
StandsForOne hand = (history : List Entry) × HandStandsFor hand history

-- the plan is sound, and the hand knows of its core's stop
pub record KnowsCore (core : CoreState) (stop : Option Stop) : Type 0 where
  pub sound : IsSoundPlan core.plan.nodes
  pub same : stop ≡ core.kept.stop
