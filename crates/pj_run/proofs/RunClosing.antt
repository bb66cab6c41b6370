-- A run over feeds, once their files are closed.
use Rattle.pj_run.specs.Jobs.{Job}
use Rattle.std.proofs.Common.{◌≡◌, ℕ, List, [], ◌∷◌, refl, ap₂, subst}
use Rattle.pj_io.specs.States.{FolderState, SinkState}
use Rattle.pj_run.specs.declared.stops.RunStop.{RunStop}
use Rattle.pj_run.specs.declared.stops.RunStop.TheVariants.{ReadFault, TooLarge, Limit, Refused, WriteFailed, NoMemory, Cut as RunCut, CutRead, CutLarge, CutRefused}
use Rattle.pj_report.specs.declared.stops.WriteStop.{WriteStop}
use Rattle.pj_report.specs.declared.stops.WriteStop.TheVariants.{Failed, NoMemory as WriteMemory}
use Rattle.pj_feed.specs.Feeds.{FeedState, AreSameFeeds}
use Rattle.pj_feed.specs.Opened.{AreCounted, StayOutside, names_in}
use Rattle.pj_run.specs.RunEnds.{TurnsCause, FeedsCause}
use Rattle.pj_run.specs.Stops.{of_turn, of_write}
use Rattle.pj_run.specs.Cuts.{run_cut}
use Rattle.pj_report.specs.Written.{write_cut}
use Rattle.pj_run.proofs.Ending.{fault_of_name}

-- why the turns stopped is why the run did
pub feeds_cause : (stop : RunStop) (job : Job) (olds news : List FeedState) (before after : FolderState) (old new : SinkState) → AreSameFeeds olds news → AreCounted before.faults after.faults news
    → TurnsCause stop job olds news old new → FeedsCause stop job olds before after old new
feeds_cause (ReadFault stream) job olds news before after old new same counted cause = fault_of_name olds news stream before.faults after.faults same counted cause
feeds_cause (TooLarge stream) job olds news before after old new same counted cause = cause
feeds_cause (Limit node) job olds news before after old new same counted cause = cause
feeds_cause (Refused line) job olds news before after old new same counted cause = cause
feeds_cause WriteFailed job olds news before after old new same counted cause = cause
feeds_cause NoMemory job olds news before after old new same counted cause = tt
feeds_cause (RunCut stop) job olds news before after old new same counted cause = cause
feeds_cause (CutRead stream) job olds news before after old new same counted cause =
    let f = fault_of_name olds news stream before.faults after.faults same counted (cause.1, cause.2, cause.3) in (cause.0, f.0, f.1, f.2, cause.4)
feeds_cause (CutLarge stream) job olds news before after old new same counted cause = cause
feeds_cause (CutRefused line) job olds news before after old new same counted cause = cause

-- the feeds that are closed have the names of those that were opened
same_names : (olds news : List FeedState) → AreSameFeeds olds news → names_in news ≡ names_in olds
same_names [] [] same = refl
same_names [] (new ∷ news) same = absurd same
same_names (old ∷ olds) [] same = absurd same
same_names (old ∷ olds) (new ∷ news) same = ap₂ (λ (n : List ℕ) (ns : List (List ℕ)). n ∷ ns) same.0.name (same_names olds news same.1)

pub closed_others : (olds news : List FeedState) (before after : FolderState) → AreSameFeeds olds news → StayOutside (names_in news) before after → StayOutside (names_in olds) before after
closed_others olds news before after same stay = subst (λ (names : List (List ℕ)). StayOutside names before after) (same_names olds news same) stay

-- ---- a report that was not written

pub report_cut : (why : WriteStop) → run_cut (of_turn (of_write why)) ≡ write_cut why
report_cut Failed = refl
report_cut WriteMemory = refl
