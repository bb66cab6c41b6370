-- Why a run with workers stopped, by the first stop that workers tell, how the writer ended, and how the core was closed.
use Rattle.std.proofs.Common.{ℕ, ◌≡◌, ◌≤◌, Bool, true, false, List, Option, Some, None, Result, Ok, Err, refl, sym, subst, if◌then◌else◌}
use Rattle.pj_io.specs.Causes.{Rose}
use Rattle.pj_io.specs.States.{SinkState}
use Rattle.pj_events.specs.declared.events.Stop.TheVariants.{Limit as CoreLimit, NoMemory as CoreMemory}
use Rattle.pj_feed.specs.Feeds.{AllTold, FeedState, files_of}
use Rattle.pj_report.specs.declared.stops.WriteStop.{WriteStop}
use Rattle.pj_report.specs.declared.stops.WriteStop.TheVariants.{Failed, NoMemory as LineMemory}
use Rattle.pj_run.specs.Jobs.{Job}
use Rattle.pj_run.specs.declared.stops.TurnStop.{TurnStop}
use Rattle.pj_run.specs.declared.stops.TurnStop.TheVariants.{Limit as TurnLimit, WriteFailed as TurnFailed, NoMemory as TurnMemory, Cut as TurnCut}
use Rattle.pj_run.specs.declared.stops.RunStop.{RunStop}
use Rattle.pj_run.specs.declared.stops.RunStop.TheVariants.{ReadFault, TooLarge, Limit, Refused, WriteFailed, NoMemory, Cut, CutRead, CutLarge, CutRefused}
use Rattle.pj_run.specs.Stops.{of_turn}
use Rattle.pj_workers.proofs.Passing.{rose-later}
use Rattle.pj_workers.specs.declared.writing.WriteEnd.{WriteEnd}
use Rattle.pj_workers.specs.declared.writing.WriteEnd.TheVariants.{Over, WriteFault, NoMemory as WriteMemory}
use Rattle.pj_roster.specs.declared.causes.Causes.{Causes}
use Rattle.pj_crew_runs.specs.Limits.{ComesBeyond}
use Rattle.pj_parallel.specs.Causes.{FileFailed, IsTooLarge, OutputCause, StopCause}
use Rattle.pj_parallel.specs.Closing.{Closes, RunState, cut_of, cut_where, file_stop, first_of, node_stop, read_stop, rest_end}
use Rattle.pj_parallel.specs.Settling.{SettleStops}
use Rattle.pj_parallel.proofs.Lines.{err-is}

-- faults that rose later rose
output-later : (stop : RunStop) (before mid now : SinkState) → before.faults ≤ mid.faults → OutputCause stop mid now → OutputCause stop before now
output-later (ReadFault stream) before mid now later o = tt
output-later (TooLarge stream) before mid now later o = tt
output-later (Limit node) before mid now later o = tt
output-later (Refused line) before mid now later o = tt
output-later WriteFailed before mid now later o = rose-later before.faults mid.faults now.faults later o
output-later NoMemory before mid now later o = tt
output-later (Cut stop) before mid now later o = rose-later before.faults mid.faults now.faults later o
output-later (CutRead stream) before mid now later o = rose-later before.faults mid.faults now.faults later o
output-later (CutLarge stream) before mid now later o = rose-later before.faults mid.faults now.faults later o
output-later (CutRefused line) before mid now later o = rose-later before.faults mid.faults now.faults later o

-- the node whose limit a turn met
abbrev pub limit-in : TurnStop → Option ℕ
limit-in (TurnLimit node) = Some node
limit-in TurnFailed = None
limit-in TurnMemory = None
limit-in (TurnCut (CoreLimit node)) = Some node
limit-in (TurnCut CoreMemory) = None

module _ (job : Job) (olds news : List FeedState) where
  -- more elements come to this node than may, where files tell their bytes
  abbrev pub MayLimit : ℕ → Type 0
  MayLimit node = AllTold olds → ComesBeyond job (files_of olds) node

  -- ---- the first stop that workers tell

  abbrev pub FirstCause : Option RunStop → Type 0
  FirstCause None = Unit {0}
  FirstCause (Some (ReadFault stream)) = FileFailed olds news stream
  FirstCause (Some (TooLarge stream)) = IsTooLarge olds stream
  FirstCause (Some (Limit node)) = MayLimit node
  FirstCause (Some (Refused line)) = ⊥
  FirstCause (Some WriteFailed) = ⊥
  FirstCause (Some NoMemory) = Unit {0}
  FirstCause (Some (Cut stop)) = ⊥
  FirstCause (Some (CutRead stream)) = ⊥
  FirstCause (Some (CutLarge stream)) = ⊥
  FirstCause (Some (CutRefused line)) = ⊥

  pub first-cause : (causes : Causes) → ((stream : ℕ) → causes.read ≡ Some stream → FileFailed olds news stream) → ((node : ℕ) → causes.node ≡ Some node → MayLimit node) → ((stream : ℕ) → causes.file ≡ Some stream → IsTooLarge olds stream)
      → FirstCause (first_of causes)
  first-cause causes reads limits files = memory causes.memory causes.read causes.node causes.file refl refl refl
    where
      memory : (m : Bool) (read limit file : Option ℕ) → causes.read ≡ read → causes.node ≡ limit → causes.file ≡ file → FirstCause (if m then Some NoMemory else read_stop read (node_stop limit (file_stop file)))
      memory true read limit file r n f = tt
      memory false (Some s) limit file r n f = reads s r
      memory false None (Some k) file r n f = limits k n
      memory false None None (Some s) r n f = files s f
      memory false None None None r n f = tt

  module _ (sink sink' : SinkState) where
    told-cause : (stop : RunStop) → FirstCause (Some stop) → StopCause stop job olds news sink sink'
    told-cause (ReadFault stream) first = first
    told-cause (TooLarge stream) first = first
    told-cause (Limit node) first = first
    told-cause (Refused line) first = absurd first
    told-cause WriteFailed first = absurd first
    told-cause NoMemory first = tt
    told-cause (Cut stop) first = absurd first
    told-cause (CutRead stream) first = absurd first
    told-cause (CutLarge stream) first = absurd first
    told-cause (CutRefused line) first = absurd first

    -- the output failed behind it
    cut-cause : (first : Option RunStop) → FirstCause first → Rose sink.faults sink'.faults → StopCause (cut_where first) job olds news sink sink'
    cut-cause None first rose = rose
    cut-cause (Some (ReadFault stream)) first rose = (rose, first)
    cut-cause (Some (TooLarge stream)) first rose = (rose, first)
    cut-cause (Some (Limit node)) first rose = (rose, first)
    cut-cause (Some (Refused line)) first rose = absurd first
    cut-cause (Some WriteFailed) first rose = absurd first
    cut-cause (Some NoMemory) first rose = (rose, tt)
    cut-cause (Some (Cut stop)) first rose = absurd first
    cut-cause (Some (CutRead stream)) first rose = absurd first
    cut-cause (Some (CutLarge stream)) first rose = absurd first
    cut-cause (Some (CutRefused line)) first rose = absurd first

    cut-rose : (stop : RunStop) → FirstCause (Some stop) → OutputCause (cut_of stop) sink sink' → Rose sink.faults sink'.faults
    cut-rose (ReadFault stream) first o = o
    cut-rose (TooLarge stream) first o = o
    cut-rose (Limit node) first o = o
    cut-rose (Refused line) first o = absurd first
    cut-rose WriteFailed first o = absurd first
    cut-rose NoMemory first o = o
    cut-rose (Cut stop) first o = absurd first
    cut-rose (CutRead stream) first o = absurd first
    cut-rose (CutLarge stream) first o = absurd first
    cut-rose (CutRefused line) first o = absurd first

    rest-cause : (stop : RunStop) (written : Result (Unit {0}) WriteStop) → FirstCause (Some stop) → OutputCause (rest_end stop written) sink sink' → StopCause (rest_end stop written) job olds news sink sink'
    rest-cause stop (Ok u) first o = told-cause stop first
    rest-cause stop (Err Failed) first o = cut-cause (Some stop) first (cut-rose stop first o)
    rest-cause stop (Err LineMemory) first o = tt

  -- ---- a stop as the core was settled

  turn-cause : (turn : TurnStop) (sink sink' : SinkState) → ((node : ℕ) → limit-in turn ≡ Some node → MayLimit node) → OutputCause (of_turn turn) sink sink' → StopCause (of_turn turn) job olds news sink sink'
  turn-cause (TurnLimit node) sink sink' cause o = cause node refl
  turn-cause TurnFailed sink sink' cause o = o
  turn-cause TurnMemory sink sink' cause o = tt
  turn-cause (TurnCut (CoreLimit node)) sink sink' cause o = (o, cause node refl)
  turn-cause (TurnCut CoreMemory) sink sink' cause o = (o, tt)

  -- ---- the whole run

  pub short-cause : (before : SinkState) (now new : RunState) (first : Option RunStop) (end : WriteEnd) (stop : RunStop) → FirstCause first → before.faults ≤ now.sink.faults → (end ≡ WriteFault → Rose before.faults now.sink.faults)
      → (end ≡ Over → OutputCause stop now.sink new.sink) → (first ≡ None → end ≡ Over → (turn : TurnStop) → SettleStops now.results.form now.core new.core now.sink new.sink turn → (node : ℕ) → limit-in turn ≡ Some node → MayLimit node)
      → Closes first end now new (Err stop) → StopCause stop job olds news before new.sink
  short-cause before now new None Over stop cause later failed output settling s =
      subst (λ x. StopCause x job olds news before new.sink) (sym s.answer_is)
      (turn-cause s.stop before new.sink (settling refl refl s.stop s.stops) (subst (λ x. OutputCause x before new.sink) s.answer_is (output-later stop before now.sink new.sink later (output refl))))
  short-cause before now new (Some first) Over stop cause later failed output settling r =
      subst (λ x. StopCause x job olds news before new.sink) (sym r.answer_is)
      (rest-cause before new.sink first r.written cause (subst (λ x. OutputCause x before new.sink) r.answer_is (output-later stop before now.sink new.sink later (output refl))))
  short-cause before now new first WriteFault stop cause later failed output settling (is, same) =
      subst (λ x. StopCause x job olds news before new.sink) (err-is (Err stop) stop (cut_where first) refl is)
      (cut-cause before new.sink first cause (subst (λ (s : SinkState). Rose before.faults s.faults) (sym same) (failed refl)))
  short-cause before now new first WriteMemory stop cause later failed output settling (is, same) =
      subst (λ x. StopCause x job olds news before new.sink) (err-is (Err stop) stop NoMemory refl is) tt
