-- What contracts see of a core, and the histories that it stands for.
use Rattle.std.specs.Prelude.{ℕ, ◌≡◌, false, List, [], ◌∷◌, ◌++◌}
use Rattle.pj_events.specs.Plan.{Node}
use Rattle.pj_events.specs.declared.events.Entry.{Entry}
use Rattle.pj_events.specs.History.{IsEntryAllowed, IsLegal, reached_of, nodes_from}
use Rattle.pj_events.specs.CoreKept.{CoreKept, Stands}
use Rattle.pj_core.specs.Plans.{RunPlan, nodes_of}

-- the plan as it is run, how many elements may reach a join of it, and what is kept: of each node, and of the run
pub record CoreState : Type 0 where
  pub plan : RunPlan
  pub limit : ℕ
  pub kept : CoreKept

-- the nodes of the core's plan at their starts
abbrev pub nodes_in : CoreState → List Node
nodes_in core = nodes_of core.plan

-- the history is a legal one of the core's plan, and the core keeps what it has to after it
pub record StandsFor (core : CoreState) (history : List Entry) : Type 0 where
  pub legal : IsLegal (nodes_in core) history
  pub stands : Stands core.plan.trace (nodes_in core) core.kept history

-- the entry may follow the history
abbrev pub MayFollow : CoreState → List Entry → Entry → Type 0
MayFollow core history entry = IsEntryAllowed (reached_of false (nodes_in core) history) entry

-- the nodes after the history
abbrev pub nodes_after : CoreState → List Entry → List Node
nodes_after core history = nodes_from (nodes_in core) history

-- plan and limit stay, and where the core stood for a history it stands for it with this entry behind it
pub record Notes (old new : CoreState) (entry : Entry) : Type 0 where
  pub plan : new.plan ≡ old.plan
  pub limit : new.limit ≡ old.limit
  pub stands : (history : List Entry) → StandsFor old history → StandsFor new (history ++ entry ∷ [])

-- the same where the entry may follow the history
pub record NotesAllowed (old new : CoreState) (entry : Entry) : Type 0 where
  pub plan : new.plan ≡ old.plan
  pub limit : new.limit ≡ old.limit
  pub stands : (history : List Entry) → StandsFor old history → MayFollow old history entry → StandsFor new (history ++ entry ∷ [])
