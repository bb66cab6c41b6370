-- What a crew has done.
use Rattle.std.specs.Prelude.{◌≡◌, List, [], ◌∷◌, ◌++◌, length}
use Rattle.std.specs.List.{AllZip}
use Rattle.pj_io.specs.States.{SinkState}
use Rattle.pj_plan.specs.declared.node.PlanNode.{PlanNode}
use Rattle.pj_events.specs.declared.events.Entry.{Entry}
use Rattle.pj_core.specs.Cores.{StandsFor}
use Rattle.pj_report.specs.declared.writer.ResultWriter.{ResultWriter}
use Rattle.pj_workers.specs.Writes.{IsWritten, drained_in}
use Rattle.pj_hub.specs.declared.made.MadeWith.{MadeWith}
use Rattle.pj_hub.specs.Hubs.{hub_with, made_with}
use Rattle.pj_crew_laws.specs.Acts.{Act, IsCrewHistory, Wrote}
use Rattle.pj_crew.specs.declared.duties.Duty.{Duty}
use Rattle.pj_crew.specs.declared.crew.Ended.{Ended}
use Rattle.pj_crew.specs.Duties.{IsSameDuty, acts_of}
use Rattle.pj_crew.specs.Tasks.{HandsOver}

-- a crew as it begins: what its core was made with, the nodes by which it writes, its duties, and what became of results so far
pub record Crew (S : Type 0) : Type 0 where
  pub made : MadeWith
  pub nodes : List PlanNode
  pub duties : List (Duty S)
  pub results : ResultWriter

-- what each worker did, the writer on the last seat
abbrev pub crew_acts : {S : Type 0} → List (Duty S) → Ended S → List Act
crew_acts duties ended = acts_of duties ended.duties.items ++ Wrote ended.end ∷ []

-- The crew made one history, for which its core stands, and ended so: on each seat its duty was done, and the lines of what the
-- writer drained were written
pub record HasRun {S : Type 0} (crew : Crew S) (before after : SinkState) (ended : Ended S) : Type 0 where
  pub history : List Entry
  pub stands : StandsFor ended.core history
  pub made : made_with ended.core ≡ crew.made
  pub acted : IsCrewHistory (hub_with crew.made) (crew_acts crew.duties ended) history
  pub same : AllZip (IsSameDuty (hub_with crew.made)) crew.duties ended.duties.items
  pub wrote : IsWritten ended.end crew.nodes crew.results ended.results before after (drained_in (hub_with crew.made) (length crew.duties) history)
  pub form : ended.results.form ≡ crew.results.form
  pub output : HandsOver ended.end before after
