-- A run over files by their names, from what it leaves of the feeds of these files.
use Rattle.pj_run.specs.Jobs.{Job}
use Rattle.pj_plan.specs.declared.node.PlanNode.{PlanNode}
use Rattle.pj_plan.specs.Nodes.{stream_columns, streams_in}
use Rattle.std.proofs.Common.{◌≡◌, ◌≤◌, ◌+◌, ◌^◌, ℕ, inl, inr, List, [], ◌∷◌, ◌++◌, take, length, get_or, Some, Err, IsTrue, refl, ap, ap₂, sym, ◌∙◌, subst, arith}
use Rattle.std.specs.Prelude.{slice_get, slice_index_or}
use Rattle.std.proofs.Math.Seq.{take-append_seam}
use Rattle.pj_io.specs.Causes.{Rose}
use Rattle.pj_io.specs.Folders.{NoneFalls, SameEverywhere}
use Rattle.pj_io.specs.States.{FolderState, SinkState}
use Rattle.pj_shape.specs.declared.columns.Column.{Column}
use Rattle.pj_feed.specs.declared.stops.OpeningStop.{OpeningStop}
use Rattle.pj_feed.specs.declared.stops.OpeningStop.TheVariants.{Fault, NoMemory as OpeningMemory}
use Rattle.pj_run.specs.declared.stops.RunStop.{RunStop}
use Rattle.pj_run.specs.declared.stops.RunStop.TheVariants.{ReadFault, TooLarge, Limit, Refused, WriteFailed, NoMemory, Cut as RunCut, CutRead, CutLarge, CutRefused}
use Rattle.pj_run.specs.declared.stops.FilesStop.TheVariants.{Opening, Run}
use Rattle.pj_feed.specs.Named.{AreTold, IsAlone, files_named}
use Rattle.pj_feed.specs.Feeds.{FeedState, bytes_of, files_of, fed_elements, AreFeeds, AllTold}
use Rattle.pj_feed.specs.Opened.{AreFeedsOf, StayOutside, names_in, NoneNamed, IsLast, HasLasts, TriesAtMost, IsFaultAt}
use Rattle.pj_run.specs.RunEnds.{AreRead, CutCause, FeedsCause, FeedsEnd, FilesCause, FilesEnd, FilesOpened, IsFaultOf, IsLargeFile}
use Rattle.pj_run.specs.Runs.{GoesBeyond, refused_line}
use Rattle.pj_feed.specs.Opened.{AreReadToEnd}
use Rattle.pj_run.specs.Turning.{TurnsEnd}
use Rattle.pj_feed.proofs.Outside.{close_stays, close_tries}
use Rattle.pj_feed.proofs.AllFeeds.{one_of, same_at, same_long, told_still, told_at, bytes_of_feed}
use Rattle.pj_feed.proofs.Opening.{AreNamed, agree_none, none_before, named_still, named_of, feeds_of, told_of, files_are, last_at_fault, last_read, keeps_of, opens_still}
use Rattle.pj_run.specs.Ends.{ArrivedOf}
use Rattle.pj_events.specs.declared.events.Entry.{Entry}
use Rattle.pj_events.specs.Outcomes.{elements_of as arrived_at}

-- ---- a run over files that were opened

-- what holds of the feeds of all these files
pub record AreAllOpened (job : Job) (names : List (List ℕ)) (folder : FolderState) (feeds : List FeedState) : Type 0 where
  pub of : AreFeedsOf 0 (streams_in job.nodes) names folder feeds
  pub each : length feeds ≡ length names
  pub fed : AreFeeds 0 (streams_in job.nodes) feeds
  pub told : AreTold names folder → AllTold feeds × (files_of feeds ≡ files_named names folder)

pub all_opened : (job : Job) (streams : List PlanNode) (names : List (List ℕ)) (folder : FolderState) (feeds : List FeedState) → streams ≡ (streams_in job.nodes) → length names ≡ length (streams_in job.nodes)
    → AreFeedsOf 0 streams names folder feeds → length feeds ≡ length streams → AreAllOpened job names folder feeds
all_opened job streams names folder feeds is each of all =
    let own : AreFeedsOf 0 (streams_in job.nodes) names folder feeds = subst (λ (ss : List PlanNode). AreFeedsOf 0 ss names folder feeds) is of in
    let many : length feeds ≡ length (streams_in job.nodes) = all ∙ ap length is in
    let long : length feeds ≡ length names = many ∙ sym each in
    record {
      of = own;
      each = long;
      fed = feeds_of 0 (streams_in job.nodes) names folder feeds own many;
      told = λ told. (told_of 0 (streams_in job.nodes) names folder feeds own told, files_are 0 (streams_in job.nodes) names folder feeds own long told);
    }

-- what the stop of the turns leaves is what the stop of the run leaves, once the files are closed
pub run_end : (stop : RunStop) (job : Job) (names : List (List ℕ)) (old mid after : FolderState) (feeds : List FeedState) (written lines : List ℕ) → AreAllOpened job names old feeds → AreTold names old
    → FeedsEnd stop job feeds mid after written lines → FilesEnd (Run stop) job names old after written lines
run_end stop job names old mid after feeds written lines opened are_told e = go stop (subst (λ (fs : List (List ℕ)). TurnsEnd stop job fs e.news written lines) files e.ends)
  where
    told : AllTold feeds
    told = (opened.told are_told).0

    files : files_of feeds ≡ files_named names old
    files = (opened.told are_told).1

    -- what had arrived at a stream whose read failed, by the bytes that its file's name has taken
    arrived : (stream : ℕ) (front : List Entry) (feed : FeedState) → slice_get e.news stream ≡ Some feed → arrived_at stream front ≡ fed_elements feed.intake.columns feed.source.taken
        → IsAlone stream names → ArrivedOf job (files_named names old) stream (after.last (slice_index_or names stream [])) front
    arrived stream front feed is came alone =
        let o = same_at feeds e.news stream feed e.same is in
        let one = one_of 0 (streams_in job.nodes) feeds stream o.0 opened.fed o.1 in
        let columns : feed.intake.columns ≡ stream_columns (streams_in job.nodes) stream = o.2.columns ∙ one.schema in
        let bytes : get_or (files_named names old) stream [] ≡ feed.source.taken ++ feed.source.left =
        ap (λ (fs : List (List ℕ)). get_or fs stream []) (sym files) ∙ (bytes_of_feed feeds stream o.0 o.1 ∙ sym (o.2.bytes (told_at feeds stream o.0 told o.1))) in
        let last : after.last (slice_index_or names stream []) ≡ length feed.source.taken =
        last_at_fault 0 (streams_in job.nodes) names old feeds e.news stream feed mid.last after.last opened.of e.same (told_still feeds e.news e.same told) alone is e.lasts in
        let front-is : take (after.last (slice_index_or names stream [])) (get_or (files_named names old) stream []) ≡ feed.source.taken =
        ap₂ (λ (k : ℕ) (xs : List ℕ). take k xs) last bytes ∙ take-append_seam feed.source.taken feed.source.left in
        came ∙ ap₂ (λ (ks : List Column) (xs : List ℕ). fed_elements ks xs) columns (sym front-is)

    go : (s : RunStop) → TurnsEnd s job (files_named names old) e.news written lines → FilesEnd (Run s) job names old after written lines
    go (ReadFault stream) ends = (ends.2, arrived stream ends.2.front ends.0 ends.1 ends.3)
    go (TooLarge stream) ends = ends
    go (Limit node) ends = ends
    go (Refused line) ends = ends
    go WriteFailed ends = tt
    go NoMemory ends = tt
    go (RunCut stop) ends = ends
    go (CutRead stream) ends = (ends.2, arrived stream ends.2.front ends.0 ends.1 ends.3)
    go (CutLarge stream) ends = ends
    go (CutRefused line) ends = ends

-- the faults of the file of this name rose
fault_there : (stream : ℕ) (job : Job) (names : List (List ℕ)) (old mid after : FolderState) (feeds : List FeedState) → AreAllOpened job names old feeds → NoneFalls old.faults mid.faults
    → (feed : FeedState) × (slice_get feeds stream ≡ Some feed) × Rose (mid.faults feed.source.name) (after.faults feed.source.name) → IsFaultOf stream names old after
fault_there stream job names old mid after feeds opened falls cause =
    let at = named_of 0 (streams_in job.nodes) names old feeds stream cause.0 opened.of cause.1 in
    let name : List ℕ = cause.0.source.name in
    let up = falls name in
    let rose = cause.2 in
    record { there = at.there; rose = subst (λ (n : List ℕ). Rose (old.faults n) (after.faults n)) at.named (omega (arith, up, rose)) }

-- the file of this name is too large
large_there : (stream : ℕ) (job : Job) (names : List (List ℕ)) (old : FolderState) (feeds : List FeedState) → AreAllOpened job names old feeds
    → (feed : FeedState) × (slice_get feeds stream ≡ Some feed) × (IsTrue feed.source.told → 2 ^ 40 ≤ length (bytes_of feed)) → IsLargeFile stream names old
large_there stream job names old feeds opened cause =
    let at = named_of 0 (streams_in job.nodes) names old feeds stream cause.0 opened.of cause.1 in
    record { there = at.there; bytes = λ t. subst (λ (xs : List ℕ). 2 ^ 40 ≤ length xs) (at.bytes t) (cause.2 (at.told t)) }

-- the line of the step that is not enabled
refused_there : (line : ℕ) (job : Job) (names : List (List ℕ)) (old : FolderState) (feeds : List FeedState) → AreAllOpened job names old feeds → (AllTold feeds → refused_line job (files_of feeds) ≡ Some line)
    → AreTold names old → refused_line job (files_named names old) ≡ Some line
refused_there line job names old feeds opened cause told = subst (λ (fs : List (List ℕ)). refused_line job fs ≡ Some line) (opened.told told).1 (cause (opened.told told).0)

-- why the turns stopped is why the run stopped
pub run_cause : (stop : RunStop) (job : Job) (names : List (List ℕ)) (old mid after : FolderState) (feeds : List FeedState) (sink sink' : SinkState) → AreAllOpened job names old feeds → NoneFalls old.faults mid.faults
    → FeedsCause stop job feeds mid after sink sink' → FilesCause (Run stop) job names old after sink sink'
run_cause (ReadFault stream) job names old mid after feeds sink sink' opened falls cause = fault_there stream job names old mid after feeds opened falls cause
run_cause (TooLarge stream) job names old mid after feeds sink sink' opened falls cause = large_there stream job names old feeds opened cause
run_cause (Limit node) job names old mid after feeds sink sink' opened falls cause = λ told. subst (λ (fs : List (List ℕ)). GoesBeyond job fs node) (opened.told told).1 (cause (opened.told told).0)
run_cause (Refused line) job names old mid after feeds sink sink' opened falls cause = (cause.0, refused_there line job names old feeds opened cause.1)
run_cause WriteFailed job names old mid after feeds sink sink' opened falls cause = cause
run_cause NoMemory job names old mid after feeds sink sink' opened falls cause = tt
run_cause (RunCut stop) job names old mid after feeds sink sink' opened falls cause =
    (cause.0, λ told. subst (λ (fs : List (List ℕ)). CutCause stop job fs) (opened.told told).1 (cause.1 (opened.told told).0))
run_cause (CutRead stream) job names old mid after feeds sink sink' opened falls cause = (cause.0, fault_there stream job names old mid after feeds opened falls (cause.1, cause.2, cause.3), cause.4)
run_cause (CutLarge stream) job names old mid after feeds sink sink' opened falls cause = (cause.0, large_there stream job names old feeds opened (cause.1, cause.2, cause.3), cause.4)
run_cause (CutRefused line) job names old mid after feeds sink sink' opened falls cause = (cause.0, cause.1, refused_there line job names old feeds opened cause.2)

each_read : (folder after : FolderState) (before : List ℕ → ℕ) (news feeds : List FeedState) (names : List (List ℕ)) → ((name : List ℕ) → IsTrue (folder.told name) → IsLast name (length (folder.contents name)) news (before name) (after.last name))
    → ((name : List ℕ) → NoneNamed name news → NoneNamed name feeds) → AreNamed feeds names → length feeds ≡ length names → AreReadToEnd names folder after
each_read folder after before news feeds [] lasts none named each = tt
each_read folder after before news [] (n ∷ ns) lasts none named each = absurd (omega (arith, each))
each_read folder after before news (f ∷ fs) (n ∷ ns) lasts none named each =
    (λ told. go (lasts n told), each_read folder after before news fs ns lasts (λ name h. (none name h).1) named.1 (omega (arith, each)))
  where
    go : IsLast n (length (folder.contents n)) news (before n) (after.last n) → after.last n ≡ length (folder.contents n)
    go (inl last) = last
    go (inr other) = absurd ((none n other.1).0 named.0)

-- the file of each name was read to its end
pub read_to_end : (job : Job) (names : List (List ℕ)) (old mid after : FolderState) (feeds : List FeedState) → AreAllOpened job names old feeds → AreRead feeds mid after → AreReadToEnd names old after
read_to_end job names old mid after feeds opened read =
    each_read old after mid.last read.news read.news names (λ name told. last_read 0 (streams_in job.nodes) names old feeds read.news mid.last after.last name opened.of read.same read.taken read.lasts told) (λ name none. none)
    (named_still 0 (streams_in job.nodes) names old feeds read.news opened.of read.same) (same_long feeds read.news read.same ∙ opened.each)

-- a name whose file was read to its end before stays one
pub still_read : (job : Job) (names : List (List ℕ)) (old mid after : FolderState) (feeds : List FeedState) (name : List ℕ) → AreAllOpened job names old feeds → SameEverywhere old.last mid.last → IsTrue (old.told name)
    → old.last name ≡ length (old.contents name) → AreRead feeds mid after → after.last name ≡ length (old.contents name)
still_read job names old mid after feeds name opened same told had read =
    keeps_of 0 (streams_in job.nodes) names old feeds read.news mid.last after.last name opened.of read.same read.taken read.lasts told (same name ∙ had)

-- ---- a file that was not opened

same_last : (name : List ℕ) (before now : ℕ) (feeds : List FeedState) → IsLast name before feeds before now → now ≡ before
same_last name before now feeds (inl e) = e
same_last name before now feeds (inr other) = other.0

-- nothing was written, and of the name the number of bytes taken last stays
pub open_end : (stop : OpeningStop) (job : Job) (names : List (List ℕ)) (old mid after : FolderState) (feeds : List FeedState) (written : List ℕ) → AreFeedsOf 0 (streams_in job.nodes) names old feeds → HasLasts feeds mid.last after.last
    → ((stop ≡ OpeningMemory → ⊥) → SameEverywhere old.last mid.last) → ((stream : ℕ) → stop ≡ Fault stream → IsFaultAt stream names feeds old mid) → FilesEnd (Opening stop) job names old after written written
open_end (Fault stream) job names old mid after feeds written of lasts same fault =
    let f = fault stream refl in
    let unlike : Fault stream ≡ OpeningMemory → ⊥ = λ e. cc in (
      refl,
      λ alone.
          let name : List ℕ = slice_index_or names stream [] in
          let none = none_before 0 (streams_in job.nodes) names old feeds stream of f.before alone in
          same_last name (mid.last name) (after.last name) feeds (lasts name (mid.last name) (agree_none name (mid.last name) feeds none)) ∙ same unlike name,
    )
open_end OpeningMemory job names old mid after feeds written of lasts same fault = tt

-- its faults rose
pub open_cause : (stop : OpeningStop) (job : Job) (names : List (List ℕ)) (old mid after : FolderState) (feeds : List FeedState) (sink sink' : SinkState) → ((stream : ℕ) → stop ≡ Fault stream → IsFaultAt stream names feeds old mid)
    → NoneFalls mid.faults after.faults → FilesCause (Opening stop) job names old after sink sink'
open_cause (Fault stream) job names old mid after feeds sink sink' fault falls =
    let f = fault stream refl in
    let up = falls (slice_index_or names stream []) in
    let rose = f.rose in record { there = f.there; rose = omega (arith, up, rose) }
open_cause OpeningMemory job names old mid after feeds sink sink' fault falls = tt

-- those before it were opened, and no names behind it were touched
pub open_opened : (stop : OpeningStop) (streams : List PlanNode) (names : List (List ℕ)) (old mid after : FolderState) (feeds : List FeedState) → AreFeedsOf 0 streams names old feeds → StayOutside (names_in feeds) mid after
    → (tries : TriesAtMost (length names) names old mid) × (length feeds ≤ tries.count) → ((stream : ℕ) → stop ≡ Fault stream → IsFaultAt stream names feeds old mid) → SameEverywhere mid.opened after.opened
    → FilesOpened (Err (Opening stop)) names old after
open_opened (Fault stream) streams names old mid after feeds of closed tried fault same =
    let f = fault stream refl in
    let few = f.before in
    (opens_still stream names old mid after f.opened same, close_stays 0 streams names old mid after feeds of closed (stream + 1) (omega (arith, few)) f.others)
open_opened OpeningMemory streams names old mid after feeds of closed tried fault same = close_tries 0 streams names old mid after feeds of closed same tried
