-- Over files and an output that never fail all is told, and no count of faults rises.
use Rattle.std.proofs.Common.{◌≡◌, List, [], ◌∷◌, ℕ, Option, Some, None, refl, subst, sym, arith}
use Rattle.pj_io.specs.Causes.{Rose}
use Rattle.pj_io.specs.States.{FolderState}
use Rattle.pj_io.specs.Steady.{steady_folder_of, steady_sink, SteadyFolderState, SteadySinkState}
use Rattle.pj_feed.specs.Named.{AreTold}
use Rattle.pj_report.specs.declared.status.Status.{Status}
use Rattle.pj_prepare.specs.Calls.{call_by, Call, IsTold, IsToldIn, Wanted}
use Rattle.pj_alone.specs.Completeness.{Completes, NoneRose}
use Rattle.pj_engine.specs.Completing.{CompletesSteadily}

never_rises : Rose 0 0 → ⊥
never_rises rose = omega (arith, rose)

files_told : (names : List (List ℕ)) (folder : SteadyFolderState) → AreTold names (steady_folder_of folder)
files_told [] folder = tt
files_told (name ∷ names) folder = (refl, files_told names folder)

script_told : (script : Option (List ℕ)) (folder : SteadyFolderState) → IsToldIn script (steady_folder_of folder)
script_told None folder = tt
script_told (Some name) folder = refl

all_told : (want : Wanted) (folder : SteadyFolderState) → IsTold (call_by want (steady_folder_of folder))
all_told want folder = record { plan = refl; script = script_told want.script folder; files = files_told want.files folder }

none_rose : (want : Wanted) (before after : SteadyFolderState) (old new : SteadySinkState) → NoneRose (call_by want (steady_folder_of before)) (steady_folder_of after) (steady_sink old) (steady_sink new)
none_rose want before after old new = record { files = λ n first last rose. never_rises rose; sink = never_rises }

-- what nothing hinders is completed
pub steadily : (answer : Status) (want : Wanted) (before after : SteadyFolderState) (old new : SteadySinkState) → Completes answer (call_by want (steady_folder_of before)) (steady_folder_of after) (steady_sink old) (steady_sink new) → CompletesSteadily answer (call_by want (steady_folder_of before))
steadily answer want before after old new completes fit playable room = completes (all_told want before) fit playable (none_rose want before after old new) room
