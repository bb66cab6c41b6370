-- How a core refuses to settle its run.
use Rattle.std.specs.Prelude.{true, Option, Some, None}
use Rattle.pj_events.specs.declared.events.Stop.{Stop}
use Rattle.pj_core.specs.Calls.{StaysStopped}
use Rattle.pj_core.specs.Cores.{CoreState}
use Rattle.pj_core.specs.Turns.{StopsMaking, working}

-- the answer is the stop that was answered before; where there was none the core stops among the probes and sweeps
abbrev pub IsSettlingRefused : Option Stop → CoreState → CoreState → Stop → Type 0
IsSettlingRefused None old new stop = StopsMaking old new (working true old) stop
IsSettlingRefused (Some before) old new stop = StaysStopped old new before stop
