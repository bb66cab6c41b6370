-- Cores to which rows came, and from which probes were taken.
use Rattle.std.specs.Prelude.{ℕ, ◌<◌, ◌≡◌, false, List, [], ◌∷◌, map, length, None}
use Rattle.pj_shape.specs.Columns.{domains_of}
use Rattle.pj_plan.specs.Nodes.{streams_of, stream_columns, streams_in}
use Rattle.pj_plan.specs.Sound.{IsSoundPlan}
use Rattle.pj_pattern.specs.declared.element.Element.{Element}
use Rattle.pj_pattern.specs.Fitting.{FitsDomains}
use Rattle.pj_events.specs.declared.events.Entry.{Entry}
use Rattle.pj_events.specs.Join.{In}
use Rattle.pj_events.specs.OneThread.{Turn, arrival_of, is_punct}
use Rattle.pj_events.specs.Outcomes.{results_of}
use Rattle.pj_laws.specs.Seats.{GivenByTakers, Holds, made_by}
use Rattle.pj_probe.specs.declared.probe.Found.{Found}
use Rattle.pj_core.specs.Calls.{HasArrived, arriving_of, closing_of}
use Rattle.pj_core.specs.Cores.{CoreState, StandsFor, nodes_in}

-- ---- rows that came

-- a row has arrived at the stream
pub record HasCome (old new : CoreState) (stream : ℕ) : Type 0 where
  pub element : Element
  pub there : stream < length (streams_of old.plan.nodes)
  pub fits : FitsDomains (domains_of (stream_columns (streams_in old.plan.nodes) stream)) element
  pub row : is_punct element ≡ false
  pub came : HasArrived old new (arrival_of (arriving_of stream element))

-- the stream was closed
pub record HasClosed (old new : CoreState) (stream : ℕ) : Type 0 where
  pub there : stream < length (streams_of old.plan.nodes)
  pub came : HasArrived old new (arrival_of (closing_of old stream))

-- each of these turns brings a row and closes nothing
abbrev pub AreRows : List Turn → Type 0
AreRows [] = Unit {0}
AreRows (turn ∷ turns) = (is_punct turn.element ≡ false) × (turn.closing ≡ 0) × AreRows turns

-- the core stands for a history of arrivals of rows alone
pub record IsFed (core : CoreState) : Type 0 where
  pub sound : IsSoundPlan core.plan.nodes
  pub on : core.kept.stop ≡ None
  pub turns : List Turn
  pub rows : AreRows turns
  pub stands : StandsFor core (map arrival_of turns)

-- ---- probes that were taken

-- the core stands for this history, made by one seat, which took these probes and gave none of them
pub record Holding (core : CoreState) (history : List Entry) (probes : List Found) : Type 0 where
  pub sound : IsSoundPlan core.plan.nodes
  pub on : core.kept.stop ≡ None
  pub stands : StandsFor core history
  pub given : GivenByTakers history
  pub own : made_by 0 history ≡ history
  pub held : (probe : Found) → In probe probes → Holds 0 probe.join probe.ticket history
  pub rows : (probe : Found) → In probe probes → probe.rows ≡ results_of (nodes_in core) history probe.join probe.ticket

abbrev pub IsHolding : CoreState → List Found → Type 0
IsHolding core probes = (history : List Entry) × Holding core history probes

-- this probe is held with those that were held before
abbrev pub HoldsToo : CoreState → CoreState → Found → Type 0
HoldsToo old new probe = (probes : List Found) → IsHolding old probes → IsHolding new (probe ∷ probes)

-- the probes that were held are held still
abbrev pub HoldsStill : CoreState → CoreState → Type 0
HoldsStill old new = (probes : List Found) → IsHolding old probes → IsHolding new probes

-- this probe is let go, and those with lesser tickets are held still
abbrev pub LetsGo : CoreState → CoreState → Found → Type 0
LetsGo old new last =
    (probes : List Found) → ((probe : Found) → In probe probes → probe.ticket < last.ticket) → IsHolding old (last ∷ probes) → IsHolding new probes
