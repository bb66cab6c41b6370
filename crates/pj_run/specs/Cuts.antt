-- What a stop of a run leaves of the lines that were to be written.
use Rattle.pj_run.specs.declared.stops.TurnStop.{TurnStop}
use Rattle.pj_run.specs.declared.stops.TurnStop.TheVariants.{Limit as TurnLimit, WriteFailed as TurnFailed, NoMemory as TurnMemory, Cut as TurnCut}
use Rattle.pj_run.specs.declared.stops.RunStop.{RunStop}
use Rattle.pj_run.specs.declared.stops.RunStop.TheVariants.{ReadFault, TooLarge, Limit, Refused, WriteFailed, NoMemory, Cut, CutRead, CutLarge, CutRefused}
use Rattle.pj_run.specs.declared.stops.FilesStop.{FilesStop}
use Rattle.pj_run.specs.declared.stops.FilesStop.TheVariants.{Opening, Run}
use Rattle.pj_report.specs.Written.{Cut as HowCut, anywhere, between}

abbrev pub turn_cut : TurnStop → HowCut
turn_cut (TurnLimit node) = between
turn_cut TurnFailed = anywhere
turn_cut TurnMemory = between
turn_cut (TurnCut stop) = anywhere

abbrev pub run_cut : RunStop → HowCut
run_cut (ReadFault stream) = between
run_cut (TooLarge stream) = between
run_cut (Limit node) = between
run_cut (Refused line) = between
run_cut WriteFailed = anywhere
run_cut NoMemory = between
run_cut (Cut stop) = anywhere
run_cut (CutRead stream) = anywhere
run_cut (CutLarge stream) = anywhere
run_cut (CutRefused line) = anywhere

abbrev pub files_cut : FilesStop → HowCut
files_cut (Opening stop) = between
files_cut (Run stop) = run_cut stop
