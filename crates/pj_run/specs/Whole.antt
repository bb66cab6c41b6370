-- Whole lines, whatever they tell: each ends in a line feed and has no other.
use Rattle.std.specs.Prelude.{◌≡◌, ℕ, ⊤, List, [], ◌∷◌, ◌++◌, Result, Ok, Err, IsTrue}
use Rattle.pj_element.specs.Runs.{fed}
use Rattle.pj_io.specs.States.{SinkState}
use Rattle.pj_line.specs.Lines.{HasNo}
use Rattle.pj_pattern.specs.declared.element.Element.{Element}
use Rattle.pj_plan.specs.declared.node.PlanNode.{PlanNode}
use Rattle.pj_report.specs.declared.stops.WriteStop.{WriteStop}
use Rattle.pj_report.specs.declared.writer.Form.{Form}
use Rattle.pj_report.specs.declared.writer.ResultWriter.{ResultWriter}
use Rattle.pj_report.specs.Forms.{taken_so_far}
use Rattle.pj_report.specs.Written.{anywhere, between, flat, write_cut, Cut}
use Rattle.pj_run.specs.PlanNames.{HasShortNames}

-- bytes without a line feed, and one behind them
abbrev pub IsLine : List ℕ → Type 0
IsLine line = (words : List ℕ) × (line ≡ fed words) × HasNo 10 words

abbrev pub AreLines : List (List ℕ) → Type 0
AreLines [] = ⊤
AreLines (line ∷ lines) = IsLine line × AreLines lines

-- whole lines were written
pub record WroteLines (before after : List ℕ) : Type 0 where
  pub lines : List (List ℕ)
  pub whole : AreLines lines
  pub written : after ≡ before ++ flat lines

-- what a stop leaves: whole lines, unless a write failed
abbrev pub LeavesWhole : Cut → List ℕ → List ℕ → Type 0
LeavesWhole anywhere before after = ⊤
LeavesWhole between before after = WroteLines before after

abbrev pub WroteWhole : {T E : Type 0} → (E → Cut) → SinkState → SinkState → Result T E → Type 0
WroteWhole cut old new (Ok x) = WroteLines old.written new.written
WroteWhole cut old new (Err stop) = LeavesWhole (cut stop) old.written new.written

-- where the sink is told: what was written are whole lines, unless the call stopped with a failed write
abbrev pub WritesWhole : {T E : Type 0} → (E → Cut) → SinkState → SinkState → Result T E → Type 0
WritesWhole cut old new result = IsTrue new.told → WroteWhole cut old new result

-- the same of a report, whose lines have names of these nodes
abbrev pub ReportsWhole : {T : Type 0} → List PlanNode → SinkState → SinkState → Result T WriteStop → Type 0
ReportsWhole nodes old new result = HasShortNames nodes → WritesWhole write_cut old new result

-- the writer has taken some elements, in this form
abbrev pub HasTaken : Form → ResultWriter → Type 0
HasTaken form writer = (es : List Element) × (writer ≡ taken_so_far form es)
