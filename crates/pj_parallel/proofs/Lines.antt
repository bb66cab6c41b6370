-- What a run with workers writes are whole lines, unless a write failed.
use Rattle.std.proofs.Common.{ℕ, ◌≡◌, List, Option, Some, None, Result, Ok, Err, IsTrue, refl, sym, ap, subst}
use Rattle.pj_io.specs.States.{SinkState}
use Rattle.pj_plan.specs.declared.node.PlanNode.{PlanNode}
use Rattle.pj_events.specs.declared.events.Entry.{Entry}
use Rattle.pj_events.specs.declared.events.Out.{Out}
use Rattle.pj_core.specs.Cores.{StandsFor}
use Rattle.pj_report.specs.declared.stops.WriteStop.{WriteStop}
use Rattle.pj_report.specs.declared.stops.WriteStop.TheVariants.{Failed, NoMemory as LineMemory}
use Rattle.pj_report.specs.declared.writer.ResultWriter.{ResultWriter}
use Rattle.pj_report.specs.Forms.{shown}
use Rattle.pj_report.specs.Written.{WritesBy, between, write_cut}
use Rattle.pj_run.specs.declared.stops.TurnStop.{TurnStop}
use Rattle.pj_run.specs.declared.stops.TurnStop.TheVariants.{Limit as TurnLimit, WriteFailed as TurnFailed, NoMemory as TurnMemory, Cut as TurnCut}
use Rattle.pj_run.specs.declared.stops.RunStop.{RunStop}
use Rattle.pj_run.specs.declared.stops.RunStop.TheVariants.{ReadFault, TooLarge, Limit, Refused, WriteFailed, NoMemory, Cut, CutRead, CutLarge, CutRefused}
use Rattle.pj_run.specs.Cuts.{run_cut}
use Rattle.pj_run.specs.PlanNames.{HasShortNames}
use Rattle.pj_run.specs.Stops.{of_turn}
use Rattle.pj_run.specs.Whole.{AreLines, LeavesWhole, WroteLines}
use Rattle.pj_run.proofs.WholeLaws.{leaves_lines, leaves_then, leaves_wrote, lines_wrote, shown_are_lines, wrote_same, wrote_then}
use Rattle.pj_workers.specs.Writes.{IsWritten}
use Rattle.pj_workers.specs.declared.writing.WriteEnd.{WriteEnd}
use Rattle.pj_workers.specs.declared.writing.WriteEnd.TheVariants.{Over, WriteFault, NoMemory as WriteMemory}
use Rattle.pj_parallel.specs.Closing.{Closes, IsOfCrew, RunState, cut_where, rest_end}
use Rattle.pj_parallel.specs.Settling.{SettlesInto, TurnLeft}

-- only a core that was settled, where no worker told a stop and the writer was over, comes to its end
pub record EndsWell (first : Option RunStop) (end : WriteEnd) (now new : RunState) : Type 0 where
  pub none : first ≡ None
  pub over : end ≡ Over
  pub settles : SettlesInto now.core new.core now.results new.results now.sink new.sink

pub ends-well : (first : Option RunStop) (end : WriteEnd) (now new : RunState) → Closes first end now new (Ok tt) → EndsWell first end now new
ends-well None Over now new s = record { none = refl; over = refl; settles = s }
ends-well (Some stop) Over now new s = absurd s
ends-well first WriteFault now new s = absurd (cc s.0)
ends-well first WriteMemory now new s = absurd (cc s.0)

pub err-is : (given : Result (Unit {0}) RunStop) (x y : RunStop) → given ≡ Err x → given ≡ Err y → y ≡ x
err-is given x y here there = cc

-- ---- what the writer left

abbrev pub WroteUntil : WriteEnd → List ℕ → List ℕ → Type 0
WroteUntil Over before after = WroteLines before after
WroteUntil WriteFault before after = Unit {0}
WroteUntil WriteMemory before after = WroteLines before after

pub wrote-until : (end : WriteEnd) (nodes : List PlanNode) (old new : ResultWriter) (before after : SinkState) (outs : List Out) → HasShortNames nodes → IsTrue after.told → IsWritten end nodes old new before after outs
    → WroteUntil end before.written after.written
wrote-until Over nodes old new before after outs names told w = lines_wrote (shown old.form nodes outs) before.written after.written (shown_are_lines old.form nodes outs names) (w.1 told)
wrote-until WriteFault nodes old new before after outs names told w = tt
wrote-until WriteMemory nodes old new before after outs names told w = leaves_lines between (shown old.form nodes outs) before.written after.written (shown_are_lines old.form nodes outs names) (w told)

-- ---- what a stop left

turn-whole : (turn : TurnStop) (lines : List (List ℕ)) (before after : List ℕ) → AreLines lines → TurnLeft turn lines before after → LeavesWhole (run_cut (of_turn turn)) before after
turn-whole (TurnLimit node) lines before after are left = lines_wrote lines before after are left
turn-whole TurnFailed lines before after are left = tt
turn-whole TurnMemory lines before after are left = leaves_lines between lines before after are left
turn-whole (TurnCut stop) lines before after are left = tt

cut-whole : (first : Option RunStop) (before after : List ℕ) → IsOfCrew first → LeavesWhole (run_cut (cut_where first)) before after
cut-whole None before after of = tt
cut-whole (Some (ReadFault stream)) before after of = tt
cut-whole (Some (TooLarge stream)) before after of = tt
cut-whole (Some (Limit node)) before after of = tt
cut-whole (Some (Refused line)) before after of = absurd of
cut-whole (Some WriteFailed) before after of = absurd of
cut-whole (Some NoMemory) before after of = tt
cut-whole (Some (Cut stop)) before after of = absurd of
cut-whole (Some (CutRead stream)) before after of = absurd of
cut-whole (Some (CutLarge stream)) before after of = absurd of
cut-whole (Some (CutRefused line)) before after of = absurd of

rest-whole : (stop : RunStop) (written : Result (Unit {0}) WriteStop) (lines : List (List ℕ)) (sink sink' : SinkState) → IsOfCrew (Some stop) → AreLines lines → WritesBy write_cut lines sink sink' written
    → LeavesWhole (run_cut (rest_end stop written)) sink.written sink'.written
rest-whole stop (Ok u) lines sink sink' of are writes = leaves_wrote (run_cut stop) sink.written sink'.written (lines_wrote lines sink.written sink'.written are writes)
rest-whole stop (Err Failed) lines sink sink' of are writes = cut-whole (Some stop) sink.written sink'.written of
rest-whole stop (Err LineMemory) lines sink sink' of are writes = leaves_lines between lines sink.written sink'.written are writes

-- ---- the whole run

module _ (before : SinkState) (now new : RunState) (names : HasShortNames now.core.plan.nodes) (told : IsTrue new.sink.told) where
  are-lines : (outs : List Out) → AreLines (shown now.results.form now.core.plan.nodes outs)
  are-lines outs = shown_are_lines now.results.form now.core.plan.nodes outs names

  pub well-whole : WroteLines before.written now.sink.written → SettlesInto now.core new.core now.results new.results now.sink new.sink → WroteLines before.written new.sink.written
  well-whole wrote s =
      wrote_then before.written now.sink.written new.sink.written wrote
      (lines_wrote (shown now.results.form now.core.plan.nodes s.outs) now.sink.written new.sink.written (are-lines s.outs) (s.written told))

  pub short-whole : (history : List Entry) → StandsFor now.core history → (first : Option RunStop) → IsOfCrew first → (end : WriteEnd) → WroteUntil end before.written now.sink.written
      → (stop : RunStop) → Closes first end now new (Err stop) → LeavesWhole (run_cut stop) before.written new.sink.written
  short-whole history stood None of Over wrote stop s =
      let at = s.stops history stood in
      subst (λ x. LeavesWhole (run_cut x) before.written new.sink.written) (sym s.answer_is)
      (leaves_then (run_cut (of_turn s.stop)) before.written now.sink.written new.sink.written wrote
      (turn-whole s.stop (shown now.results.form now.core.plan.nodes at.outs) now.sink.written new.sink.written (are-lines at.outs) (at.written told)))
  short-whole history stood (Some first) of Over wrote stop r =
      subst (λ x. LeavesWhole (run_cut x) before.written new.sink.written) (sym r.answer_is)
      (leaves_then (run_cut (rest_end first r.written)) before.written now.sink.written new.sink.written wrote
      (rest-whole first r.written (shown now.results.form now.core.plan.nodes now.core.kept.undrained) now.sink new.sink of (are-lines now.core.kept.undrained) (r.lines told)))
  short-whole history stood first of WriteFault wrote stop (is, same) =
      subst (λ x. LeavesWhole (run_cut x) before.written new.sink.written) (err-is (Err stop) stop (cut_where first) refl is) (cut-whole first before.written new.sink.written of)
  short-whole history stood first of WriteMemory wrote stop (is, same) =
      subst (λ x. LeavesWhole (run_cut x) before.written new.sink.written) (err-is (Err stop) stop NoMemory refl is)
      (wrote_same before.written now.sink.written new.sink.written (ap (λ (s : SinkState). s.written) same) wrote)
