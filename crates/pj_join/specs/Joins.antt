-- What contracts see of a join, and what its calls do.
pub use Rattle.pj_recheck.specs.Judging.{join_data}
pub use Rattle.pj_probe.specs.declared.probe.Found.{Found}
use Rattle.std.specs.Prelude.{ℕ, ◌≤◌, ◌≡◌, true, false, List, [], ◌∷◌, ◌++◌, map, Option, Some, None}
use Rattle.pj_events.specs.Join.{In, JoinData, PunctAt, Step, Take, start, run, has, joined, results, AreLegalSteps}
use Rattle.pj_events.specs.KeptState.{KeptState, kept_step, JoinStands}

-- its number among the nodes, what it joins by, how many elements may reach it, and what it keeps of those that did
pub record JoinView : Type 0 where
  pub node : ℕ
  pub spec : JoinData
  pub limit : ℕ
  pub kept : KeptState

-- the join after a step
abbrev pub after : JoinView → Step → JoinView
after join e = record join { kept = kept_step join.spec join.kept e }

-- the join with these punctuations as those that wait
abbrev pub with_waiting : List PunctAt → JoinView → JoinView
with_waiting ps join = record join { kept = record join.kept { waiting = ps } }

-- the ticket is taken and not given
abbrev pub IsTaken : KeptState → ℕ → Type 0
IsTaken k u = (has k.opened u ≡ true) × (has k.pending u ≡ false)

-- what the work of a ticket finds: its results over the stored tuples, each joined to a row
abbrev pub found_of : JoinView → ℕ → Found
found_of join u = record { join = join.node; ticket = u; rows = map joined (results join.spec join.kept.stored join.kept.stored u) }

-- the least pending ticket is taken, and this is what its work finds
pub record TakesLeast (old new : JoinView) (found : Found) : Type 0 where
  pub pending : has old.kept.pending found.ticket ≡ true
  pub least : (u : ℕ) → In u old.kept.pending → found.ticket ≤ u
  pub finds : found ≡ found_of old found.ticket
  pub changes : new ≡ after old (Take found.ticket)
  pub taken : IsTaken new.kept found.ticket

-- nothing where no ticket is pending; else the least is taken
abbrev pub JoinTakes : JoinView → JoinView → Option Found → Type 0
JoinTakes old new None = (old.kept.pending ≡ []) × (new ≡ old)
JoinTakes old new (Some found) = TakesLeast old new found

-- the steps are legal, and the join keeps what it has to after them
abbrev pub StandsFor : JoinView → List Step → Type 0
StandsFor join steps = AreLegalSteps join.spec start steps × JoinStands join.spec join.kept steps

-- where the join stood for these steps it stands for them with the take, and the rows are the results of the ticket
-- over all that arrived
abbrev pub StandsTaken : JoinView → List Step → Option Found → Type 0
StandsTaken new steps None = StandsFor new steps
StandsTaken new steps (Some found) =
    StandsFor new (steps ++ Take found.ticket ∷ [])
    × (found.rows ≡ map joined (results new.spec (run new.spec start steps).tuples (run new.spec start steps).tuples found.ticket))
