-- What the source and the sink in memory show.
use Rattle.std.specs.Prelude.{ℕ, true, List, [], take, drop}
use Rattle.pj_io.specs.Plans.{FaultPlan}
use Rattle.pj_io.specs.States.{SourceState, SinkState}

-- A source, and how its calls go
pub record MemSourceState : Type 0 where
  pub source : SourceState
  pub plan : FaultPlan

-- A sink, how its calls go, and for how many more bytes there is room
pub record MemSinkState : Type 0 where
  pub sink : SinkState
  pub plan : FaultPlan
  pub room : ℕ

-- a source that tells these bytes, of which so many were taken
abbrev pub source_at : List ℕ → ℕ → ℕ → List ℕ → SourceState
source_at bytes at faults name = record { told = true; taken = take at bytes; left = drop at bytes; faults = faults; name = name }

-- the sink in memory holds nothing back
abbrev pub holding_none : SinkState → SinkState
holding_none sink = record sink { held = [] }
