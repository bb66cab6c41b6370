-- What is handed out where a core is settled, and how that ends.
use Rattle.std.specs.Prelude.{◌≡◌, ◌⊎◌, ℕ, true, List, ◌++◌, Option, Some, None, IsTrue}
use Rattle.pj_io.specs.States.{SinkState}
use Rattle.pj_events.specs.declared.events.Entry.{Entry}
use Rattle.pj_events.specs.declared.events.Out.{Out}
use Rattle.pj_events.specs.declared.events.Stop.{Stop}
use Rattle.pj_events.specs.declared.events.Stop.TheVariants.{Limit as CoreLimit}
use Rattle.pj_events.specs.Outcomes.{elements_out, outputs_of}
use Rattle.pj_core.specs.Cores.{CoreState, StandsFor, nodes_after}
use Rattle.pj_core.specs.Turns.{Finishes, MakesSome, working}
use Rattle.pj_report.specs.declared.writer.Form.{Form}
use Rattle.pj_report.specs.declared.writer.ResultWriter.{ResultWriter}
use Rattle.pj_report.specs.Forms.{TakesMore, shown}
use Rattle.pj_report.specs.Written.{FrontOf, WholeLines, flat}
use Rattle.pj_run.specs.declared.stops.TurnStop.{TurnStop}
use Rattle.pj_run.specs.declared.stops.TurnStop.TheVariants.{Limit as TurnLimit, WriteFailed as TurnFailed, NoMemory as TurnMemory, Cut as TurnCut}

-- all that is not drained, and behind it what these entries behind the history hand out
abbrev pub outs_with : CoreState → List Entry → List Entry → List Out
outs_with core history entries = core.kept.undrained ++ outputs_of core.plan.trace (nodes_after core history) entries

-- the core stopped behind a front of what settles it, and this was handed out until then
pub record StopsSettling (old : CoreState) (history : List Entry) (outs : List Out) (stop : Stop) : Type 0 where
  pub stopped : CoreState
  pub some : MakesSome old stopped history (working true old history) stop
  pub plan : stopped.plan ≡ old.plan
  pub outs_are : outs ≡ outs_with old history some.front

-- the core was settled, or it stopped on the way
abbrev pub Settled : CoreState → CoreState → List Out → Option Stop → Type 0
Settled old new outs None = Finishes true old new outs
Settled old new outs (Some stop) = (history : List Entry) → StandsFor old history → StopsSettling old history outs stop

-- the core was settled, the writer has taken what was handed out, and where the sink is told its lines were written
pub record SettlesInto (old new : CoreState) (before after : ResultWriter) (sink sink' : SinkState) : Type 0 where
  pub outs : List Out
  pub finishes : Finishes true old new outs
  pub taken : TakesMore before after (elements_out outs)
  pub written : IsTrue sink'.told → sink'.written ≡ sink.written ++ flat (shown before.form old.plan.nodes outs)

-- ---- stops

-- what is left of these lines: all of them, whole first ones, or a front of their bytes
abbrev pub TurnLeft : TurnStop → List (List ℕ) → List ℕ → List ℕ → Type 0
TurnLeft (TurnLimit node) lines before after = after ≡ before ++ flat lines
TurnLeft TurnFailed lines before after = FrontOf (flat lines) before after
TurnLeft TurnMemory lines before after = WholeLines lines before after
TurnLeft (TurnCut stop) lines before after = FrontOf (flat lines) before after

-- the core was settled, or it stopped on the way
abbrev pub SettledUntil : CoreState → CoreState → List Entry → List Out → Type 0
SettledUntil old new history outs = Finishes true old new outs ⊎ ((stop : Stop) × StopsSettling old history outs stop)

-- how far it came where it ended so
abbrev pub CameTo : CoreState → CoreState → List Entry → List Out → TurnStop → Type 0
CameTo old new history outs (TurnLimit node) = StopsSettling old history outs (CoreLimit node)
CameTo old new history outs TurnFailed = Finishes true old new outs
CameTo old new history outs TurnMemory = SettledUntil old new history outs
CameTo old new history outs (TurnCut stop) = StopsSettling old history outs stop

-- behind the history the core made a front of what settles it, and the lines of what was handed out until then were written, as far as
-- the stop leaves them
pub record LeavesSome (form : Form) (old new : CoreState) (history : List Entry) (stop : TurnStop) (sink sink' : SinkState) : Type 0 where
  pub outs : List Out
  pub came : CameTo old new history outs stop
  pub written : IsTrue sink'.told → TurnLeft stop (shown form old.plan.nodes outs) sink.written sink'.written

-- the same behind each history that the core stood for
abbrev pub SettleStops : Form → CoreState → CoreState → SinkState → SinkState → TurnStop → Type 0
SettleStops form old new sink sink' stop = (history : List Entry) → StandsFor old history → LeavesSome form old new history stop sink sink'
