-- What is handed out where a hand is settled, and how that ends.
use Rattle.std.specs.Prelude.{◌≡◌, ℕ, ⊤, List, ◌++◌, Option, Some, None, IsTrue}
use Rattle.pj_io.specs.States.{SinkState}
use Rattle.pj_events.specs.declared.events.Entry.{Entry}
use Rattle.pj_events.specs.declared.events.Out.{Out}
use Rattle.pj_events.specs.declared.events.Stop.{Stop}
use Rattle.pj_events.specs.declared.events.Stop.TheVariants.{Limit as CoreLimit, NoMemory as CoreMemory}
use Rattle.pj_events.specs.Limits.{BeginsBeyond, StaysWithin}
use Rattle.pj_events.specs.Outcomes.{elements_out, outputs_of}
use Rattle.pj_core.specs.Cores.{nodes_after, nodes_in}
use Rattle.pj_hand.specs.Hands.{HandState, HandStandsFor}
use Rattle.pj_hand.specs.Settling.{SettlesHand, settling}
use Rattle.pj_report.specs.declared.writer.Form.{Form}
use Rattle.pj_report.specs.declared.writer.ResultWriter.{ResultWriter}
use Rattle.pj_report.specs.Forms.{TakesMore, shown}
use Rattle.pj_report.specs.Written.{FrontOf, WritesBy, flat}
use Rattle.std.specs.Prelude.{Result}
use Rattle.pj_run.specs.declared.stops.TurnStop.{TurnStop}
use Rattle.pj_run.specs.declared.stops.TurnStop.TheVariants.{Limit as TurnLimit, WriteFailed as TurnFailed, NoMemory as TurnMemory, Cut as TurnCut}
use Rattle.pj_run.specs.Cuts.{turn_cut}

-- all that is not drained, and behind it what these entries behind the history hand out
abbrev pub outs_with : HandState → List Entry → List Entry → List Out
outs_with hand history entries = hand.core.kept.undrained ++ outputs_of hand.core.plan.trace (nodes_after hand.core history) entries

-- its lines, where they are written as they come
abbrev pub lines_with : Form → HandState → List Entry → List Entry → List (List ℕ)
lines_with form hand history entries = shown form hand.core.plan.nodes (outs_with hand history entries)

-- an entry is the first of these behind the history that brings an element beyond the limit, at this node
pub record BreaksAt (hand : HandState) (history entries : List Entry) (node : ℕ) : Type 0 where
  pub front : List Entry
  pub back : List Entry
  pub parts : entries ≡ front ++ back
  pub within : StaysWithin hand.core.limit (nodes_in hand.core) history front
  pub beyond : BeginsBeyond hand.core.limit (nodes_in hand.core) (history ++ front) back node

-- this was handed out up to that entry
pub record HandsUntil (hand : HandState) (history entries : List Entry) (outs : List Out) (node : ℕ) : Type 0 where
  pub breaks : BreaksAt hand history entries node
  pub outs_are : outs ≡ outs_with hand history breaks.front

-- what was handed out is the first part of what these entries hand out; where a limit was met, exactly that of the entries before
abbrev pub HandsSome : HandState → List Entry → List Entry → List Out → Stop → Type 0
HandsSome hand history entries outs (CoreLimit node) = HandsUntil hand history entries outs node
HandsSome hand history entries outs CoreMemory = (others : List Out) × (outs ++ others ≡ outs_with hand history entries)

-- the run was settled, or the core stopped on the way, or a probe found no memory
abbrev pub Settled : HandState → HandState → List Out → Option Stop → Type 0
Settled old new outs None = SettlesHand old new outs
Settled old new outs (Some stop) = (history : List Entry) → HandStandsFor old history → HandsSome old history (settling old history) outs stop

-- the run was settled, and the writer has taken what was handed out
pub record SettlesInto (old new : HandState) (before after : ResultWriter) : Type 0 where
  pub outs : List Out
  pub settles : SettlesHand old new outs
  pub taken : TakesMore before after (elements_out outs)

-- where the sink is told: behind each history that the hand stands for, the lines of all that was not drained and of what settling
-- hands out were written, or as much of them as the stop leaves
abbrev pub SettleWrites : {T : Type 0} → Form → HandState → SinkState → SinkState → Result T TurnStop → Type 0
SettleWrites form hand old new result =
    IsTrue new.told → (history : List Entry) → HandStandsFor hand history → WritesBy turn_cut (lines_with form hand history (settling hand history)) old new result

-- where a limit was met and the sink is told, exactly the lines up to that entry were written
pub record EndsSettling (form : Form) (hand : HandState) (history : List Entry) (node : ℕ) (old new : SinkState) : Type 0 where
  pub breaks : BreaksAt hand history (settling hand history) node
  pub written : IsTrue new.told → new.written ≡ old.written ++ flat (lines_with form hand history breaks.front)

-- where the output failed then, a front of their bytes was
pub record CutsSettling (form : Form) (hand : HandState) (history : List Entry) (node : ℕ) (old new : SinkState) : Type 0 where
  pub breaks : BreaksAt hand history (settling hand history) node
  pub written : IsTrue new.told → FrontOf (flat (lines_with form hand history breaks.front)) old.written new.written

abbrev pub CoreSettling : Stop → Form → HandState → List Entry → SinkState → SinkState → Type 0
CoreSettling (CoreLimit node) form hand history old new = CutsSettling form hand history node old new
CoreSettling CoreMemory form hand history old new = ⊤

-- what the stop leaves
abbrev pub SettleStops : TurnStop → Form → HandState → List Entry → SinkState → SinkState → Type 0
SettleStops (TurnLimit node) form hand history old new = EndsSettling form hand history node old new
SettleStops TurnFailed form hand history old new = ⊤
SettleStops TurnMemory form hand history old new = ⊤
SettleStops (TurnCut stop) form hand history old new = CoreSettling stop form hand history old new

-- the same behind each history that the hand stands for
abbrev pub SettleStopsBehind : TurnStop → Form → HandState → SinkState → SinkState → Type 0
SettleStopsBehind stop form hand old new = (history : List Entry) → HandStandsFor hand history → SettleStops stop form hand history old new
