-- What a run with workers over files leaves, from what it leaves of their feeds.
use Rattle.std.proofs.Common.{◌≡◌, ◌∙◌, ◌^◌, ℕ, inl, inr, List, [], ◌++◌, take, length, get_or, IsTrue, refl, ap, ap₂, sym, subst}
use Rattle.std.specs.Prelude.{slice_index_or}
use Rattle.std.proofs.Math.Seq.{take-append_seam}
use Rattle.pj_io.specs.Folders.{SameEverywhere}
use Rattle.pj_io.specs.States.{FolderState, SinkState}
use Rattle.pj_events.specs.declared.events.Entry.{Entry}
use Rattle.pj_feed.specs.Feeds.{AllTold, AreSameFeeds, FeedState, bytes_of, fed_elements, files_of}
use Rattle.pj_feed.specs.Named.{AreTold, files_named}
use Rattle.pj_feed.specs.Opened.{AreFeedsOf, HasLasts, IsFaultAt}
use Rattle.pj_feed.specs.declared.stops.OpeningStop.{OpeningStop}
use Rattle.pj_feed.specs.declared.stops.OpeningStop.TheVariants.{Fault, NoMemory as OpeningMemory}
use Rattle.pj_feed.proofs.AllFeeds.{bytes_of_feed, one_of, same_at, told_at, told_still}
use Rattle.pj_feed.proofs.Opening.{last_at_fault}
use Rattle.pj_plan.specs.Nodes.{stream_columns, streams_in}
use Rattle.pj_report.specs.declared.stops.WriteStop.{WriteStop}
use Rattle.pj_report.specs.declared.stops.WriteStop.TheVariants.{Failed, NoMemory as WriteMemory}
use Rattle.pj_report.specs.Written.{Leaves, write_cut}
use Rattle.pj_run.specs.Ends.{ArrivedOf}
use Rattle.pj_run.specs.Jobs.{Job}
use Rattle.pj_run.specs.Runs.{lines_by}
use Rattle.pj_run.specs.Stops.{of_turn, of_write}
use Rattle.pj_run.specs.declared.stops.RunStop.{RunStop}
use Rattle.pj_run.specs.declared.stops.RunStop.TheVariants.{ReadFault, TooLarge, Limit, Refused, WriteFailed, NoMemory, Cut as RunCut, CutRead, CutLarge, CutRefused}
use Rattle.pj_run.specs.declared.stops.FilesStop.TheVariants.{Opening, Run}
use Rattle.pj_run.proofs.FilesRun.{AreAllOpened, open_end}
use Rattle.pj_shape.specs.declared.columns.Column.{Column}
use Rattle.pj_whole_laws.specs.Whole.{IsWholeHistory}
use Rattle.pj_crew_runs.specs.Runs.{IsFrontHistory}
use Rattle.pj_parallel.specs.Parallel.{ArrivesLarge, ArrivesUntil, IsStopped}
use Rattle.pj_parallel_files.specs.Feeds.{FailsToReport, FeedsLeave}
use Rattle.pj_parallel_files.specs.Histories.{ArrivedUntil, FilesLeave}

-- ---- a run over files that were opened

module _ (job : Job) (names : List (List ℕ)) (old mid after : FolderState) (feeds : List FeedState) (sink sink' : SinkState) (opened : AreAllOpened job names old feeds) (are_told : AreTold names old) (t : IsTrue sink'.told) where
  told : AllTold feeds
  told = (opened.told are_told).0

  files : files_of feeds ≡ files_named names old
  files = (opened.told are_told).1

  -- what had arrived at a stream whose read failed, by the bytes that its file's name has taken
  arrived : (news : List FeedState) (stream : ℕ) (history : List Entry) → AreSameFeeds feeds news → HasLasts news mid.last after.last → ArrivesUntil news history stream → ArrivedUntil job names old after stream history
  arrived news stream history same lasts came alone =
      let feed = came.0 in
      let o = same_at feeds news stream feed same came.1 in
      let one = one_of 0 (streams_in job.nodes) feeds stream o.0 opened.fed o.1 in
      let columns : feed.intake.columns ≡ stream_columns (streams_in job.nodes) stream = o.2.columns ∙ one.schema in
      let bytes : get_or (files_named names old) stream [] ≡ feed.source.taken ++ feed.source.left =
      ap (λ (fs : List (List ℕ)). get_or fs stream []) (sym files) ∙ (bytes_of_feed feeds stream o.0 o.1 ∙ sym (o.2.bytes (told_at feeds stream o.0 told o.1))) in
      let last : after.last (slice_index_or names stream []) ≡ length feed.source.taken =
      last_at_fault 0 (streams_in job.nodes) names old feeds news stream feed mid.last after.last opened.of same (told_still feeds news same told) alone came.1 lasts in
      let front-is : take (after.last (slice_index_or names stream [])) (get_or (files_named names old) stream []) ≡ feed.source.taken =
      ap₂ (λ (k : ℕ) (xs : List ℕ). take k xs) last bytes ∙ take-append_seam feed.source.taken feed.source.left in
      came.2 ∙ ap₂ (λ (ks : List Column) (xs : List ℕ). fed_elements ks xs) columns (sym front-is)

  -- and at one whose file is too large
  arrived-large : (news : List FeedState) (stream : ℕ) (history : List Entry) → AreSameFeeds feeds news → ArrivesLarge news history stream → ArrivedOf job (files_named names old) stream (2 ^ 40) history
  arrived-large news stream history same came =
      let feed = came.0 in
      let o = same_at feeds news stream feed same came.1 in
      let one = one_of 0 (streams_in job.nodes) feeds stream o.0 opened.fed o.1 in
      let columns : feed.intake.columns ≡ stream_columns (streams_in job.nodes) stream = o.2.columns ∙ one.schema in
      let bytes : bytes_of feed ≡ get_or (files_named names old) stream [] =
      o.2.bytes (told_at feeds stream o.0 told o.1) ∙ (sym (bytes_of_feed feeds stream o.0 o.1) ∙ ap (λ (fs : List (List ℕ)). get_or fs stream []) files) in
      came.2.arrived ∙ ap₂ (λ (ks : List Column) (xs : List ℕ). fed_elements ks (take (2 ^ 40) xs)) columns bytes

  front : (history : List Entry) → IsFrontHistory job (files_of feeds) history → IsFrontHistory job (files_named names old) history
  front history is = subst (λ (fs : List (List ℕ)). IsFrontHistory job fs history) files is

  stopped : (news : List FeedState) (stop : RunStop) → AreSameFeeds feeds news → HasLasts news mid.last after.last → IsStopped job feeds news stop sink sink' → FilesLeave (Run stop) job names old after sink.written sink'.written
  stopped news (ReadFault stream) same lasts s = record { history = s.history; front = front s.history s.front; holds = arrived news stream s.history same lasts s.tells; left = s.written t }
  stopped news (TooLarge stream) same lasts s = record { history = s.history; front = front s.history s.front; holds = arrived-large news stream s.history same s.tells; left = s.written t }
  stopped news (Limit node) same lasts s = record { history = s.history; front = front s.history s.front; holds = s.tells; left = s.written t }
  stopped news (Refused line) same lasts s = absurd s.tells
  stopped news WriteFailed same lasts s = (_, inl (s.history, front s.history s.front, refl), s.written t)
  stopped news NoMemory same lasts s = (_, inl (s.history, front s.history s.front, refl), s.written t)
  stopped news (RunCut stop) same lasts s = record { history = s.history; front = front s.history s.front; holds = s.tells; left = s.written t }
  stopped news (CutRead stream) same lasts s = record { history = s.history; front = front s.history s.front; holds = arrived news stream s.history same lasts s.tells; left = s.written t }
  stopped news (CutLarge stream) same lasts s = record { history = s.history; front = front s.history s.front; holds = arrived-large news stream s.history same s.tells; left = s.written t }
  stopped news (CutRefused line) same lasts s = absurd s.tells

  unreported : (history : List Entry) (why : WriteStop) → IsWholeHistory job (files_named names old) history → Leaves (write_cut why) (lines_by job (files_named names old) history) sink.written sink'.written
      → FilesLeave (Run (of_turn (of_write why))) job names old after sink.written sink'.written
  unreported history Failed whole left = (_, inr (history, whole, refl), left)
  unreported history WriteMemory whole left = (_, inr (history, whole, refl), left)

  failed : (stop : RunStop) → FailsToReport job (files_named names old) stop sink sink' → FilesLeave (Run stop) job names old after sink.written sink'.written
  failed stop f = subst (λ (s : RunStop). FilesLeave (Run s) job names old after sink.written sink'.written) (sym f.stop_is) (unreported f.history f.why f.whole (f.written t))

  -- what the stop leaves of the feeds is what it leaves of the files
  pub named_leave : (stop : RunStop) → FeedsLeave stop job feeds mid after sink sink' → FilesLeave (Run stop) job names old after sink.written sink'.written
  named_leave stop e = elim e.left [
    | inl s ↦ stopped e.news stop e.same e.lasts s
    | inr f ↦ failed stop (subst (λ (fs : List (List ℕ)). FailsToReport job fs stop sink sink') files f)
  ]

-- ---- a file that was not opened

pub unopened_leave : (stop : OpeningStop) (job : Job) (names : List (List ℕ)) (old mid after : FolderState) (feeds : List FeedState) (written : List ℕ) → AreFeedsOf 0 (streams_in job.nodes) names old feeds → HasLasts feeds mid.last after.last
    → ((stop ≡ OpeningMemory → ⊥) → SameEverywhere old.last mid.last) → ((stream : ℕ) → stop ≡ Fault stream → IsFaultAt stream names feeds old mid) → FilesLeave (Opening stop) job names old after written written
unopened_leave (Fault stream) job names old mid after feeds written of lasts same fault = open_end (Fault stream) job names old mid after feeds written of lasts same fault
unopened_leave OpeningMemory job names old mid after feeds written of lasts same fault = refl
