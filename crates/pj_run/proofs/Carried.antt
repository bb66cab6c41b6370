-- What a stop cuts, on its way up.
use Rattle.std.proofs.Common.{◌≡◌, refl}
use Rattle.pj_report.specs.declared.stops.WriteStop.{WriteStop}
use Rattle.pj_report.specs.declared.stops.WriteStop.TheVariants.{Failed, NoMemory as WriteMemory}
use Rattle.pj_run.specs.declared.stops.TurnStop.{TurnStop}
use Rattle.pj_run.specs.declared.stops.TurnStop.TheVariants.{Limit as TurnLimit, WriteFailed as TurnFailed, NoMemory as TurnMemory, Cut as TurnCut}
use Rattle.pj_run.specs.Stops.{of_write, of_turn}
use Rattle.pj_run.specs.Cuts.{turn_cut, run_cut}
use Rattle.pj_report.specs.Written.{write_cut}

-- a stop cuts what it stops in one way, whatever it is called
pub write_cut_same : (stop : WriteStop) → turn_cut (of_write stop) ≡ write_cut stop
write_cut_same Failed = refl
write_cut_same WriteMemory = refl

pub turn_cut_same : (stop : TurnStop) → run_cut (of_turn stop) ≡ turn_cut stop
turn_cut_same (TurnLimit node) = refl
turn_cut_same TurnFailed = refl
turn_cut_same TurnMemory = refl
turn_cut_same (TurnCut stop) = refl
