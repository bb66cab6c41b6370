-- The script of a call, which is read once its plan was, and why its steps were not had.
use Rattle.std.specs.Prelude.{ℕ, ◌≡◌, ◌<◌, ◌≤◌, ⊤, List, [], ◌∷◌, length, Option, Some, None, Ok, Err, IsTrue}
use Rattle.pj_feed.specs.Opened.{IsReadToEnd, OpensAtMost, OpensFirst, StayOutside}
use Rattle.pj_io.specs.Folders.{NoneFalls, RoseAt, SameEverywhere}
use Rattle.pj_io.specs.States.{FolderState}
use Rattle.pj_plan.specs.declared.node.PlanNode.{PlanNode}
use Rattle.pj_script.specs.declared.step.ScriptStep.{ScriptStep}
use Rattle.pj_script.specs.Reading.{AreStepsOf, script_read}
use Rattle.pj_prepare.specs.declared.calls.Prepared.{Prepared}
use Rattle.pj_prepare.specs.declared.stops.FileStop.TheVariants.{OpenFault as NotOpened, ReadFault as NotRead, TooLong, NoMemory as FileMemory}
use Rattle.pj_prepare.specs.declared.stops.StepsStop.{StepsStop}
use Rattle.pj_prepare.specs.declared.stops.StepsStop.TheVariants.{File, Refused, NoMemory}
use Rattle.pj_prepare.specs.Calls.{call_for, file_names, leading, script_names, Call, HasReadPlan, HasToldPlan, operand}
use Rattle.pj_prepare.specs.Ready.{IsRunReady}
use Rattle.pj_words.specs.declared.request.Request.{Request}

-- ---- the steps

-- the bytes say these steps over the nodes of a plan, and are few enough
abbrev pub SpellsSteps : List ℕ → List PlanNode → List (ℕ × ScriptStep) → Type 0
SpellsSteps bytes nodes steps = (length bytes ≤ 1048576) × (script_read nodes bytes ≡ Ok steps)

-- these are the steps of the script of this name, if there is one, where its file is told those that its bytes say
abbrev pub HasSteps : Option (List ℕ) → List PlanNode → FolderState → Option (List (ℕ × ScriptStep)) → Type 0
HasSteps None nodes folder script = script ≡ None
HasSteps (Some name) nodes folder script =
    (steps : List (ℕ × ScriptStep)) × (script ≡ Some steps) × AreStepsOf nodes steps × (IsTrue (folder.told name) → SpellsSteps (folder.contents name) nodes steps)

-- the number of the operand of the first stream's file, behind the plan and a script
abbrev pub first_behind : Option (List (ℕ × ScriptStep)) → ℕ
first_behind None = 2
first_behind (Some steps) = 3

-- ---- what is opened

-- the script's file, if there is a script, was opened and read to its end, and no other was touched
pub record ReadsScript (script : Option (List ℕ)) (old new : FolderState) : Type 0 where
  pub opened : OpensFirst (length (script_names script)) (script_names script) old new
  pub others : StayOutside (script_names script) old new
  pub last : (name : List ℕ) → script ≡ Some name → IsTrue (old.told name) → IsReadToEnd name old new

-- why there are no steps in the script of this name: its file was not opened, not read, or has too many bytes; or a line is no step
abbrev pub StepsCause : StepsStop → List ℕ → List PlanNode → FolderState → FolderState → Type 0
StepsCause (File NotOpened) name nodes old new = OpensFirst 0 (name ∷ []) old new × RoseAt name old.faults new.faults × SameEverywhere old.last new.last
StepsCause (File NotRead) name nodes old new = OpensFirst 1 (name ∷ []) old new × RoseAt name old.faults new.faults
StepsCause (File TooLong) name nodes old new = OpensFirst 1 (name ∷ []) old new × (IsTrue (old.told name) → 1048576 < length (old.contents name))
StepsCause (File FileMemory) name nodes old new = ⊤
StepsCause (Refused line) name nodes old new =
    OpensFirst 1 (name ∷ []) old new × (IsTrue (old.told name) → (length (old.contents name) ≤ 1048576) × (script_read nodes (old.contents name) ≡ Err line))
StepsCause NoMemory name nodes old new = ⊤

-- there is a script, and its steps were not had for this cause
pub record HasNoSteps (stop : StepsStop) (script : Option (List ℕ)) (nodes : List PlanNode) (old new : FolderState) : Type 0 where
  pub name : List ℕ
  pub is : script ≡ Some name
  pub opened : OpensAtMost 1 (name ∷ []) old new
  pub others : StayOutside (name ∷ []) old new
  pub cause : StepsCause stop name nodes old new

-- ---- how far a call has come

-- The call's plan was read and is to be run. Of the folder that is said here which the call met, and as it is now: the plan's file alone
-- was opened, where it is told it was read to its end, and no faults were forgotten
pub record IsPrepared (ready : Prepared) (call : Call) (now : FolderState) : Type 0 where
  pub run : IsRunReady ready call
  pub told : now.told ≡ call.folder.told
  pub contents : now.contents ≡ call.folder.contents
  pub last : HasReadPlan call now
  pub opened : OpensFirst 1 (operand call.names 1 ∷ []) call.folder now
  pub others : StayOutside (operand call.names 1 ∷ []) call.folder now
  pub later : NoneFalls call.folder.faults now.faults

-- Its script was read too, if it has one, and these are the steps
pub record IsSetUp (ready : Prepared) (script : Option (List (ℕ × ScriptStep))) (call : Call) (now : FolderState) : Type 0 where
  pub run : IsRunReady ready call
  pub steps : HasSteps call.script ready.core.plan.nodes call.folder script
  pub told : now.told ≡ call.folder.told
  pub contents : now.contents ≡ call.folder.contents
  pub last : HasToldPlan call → IsReadToEnd (operand call.names 1) call.folder now
  pub script_last : (name : List ℕ) → call.script ≡ Some name → IsTrue (call.folder.told name) → IsReadToEnd name call.folder now
  pub opened : OpensFirst (length (leading (operand call.names 1) call.script)) (leading (operand call.names 1) call.script) call.folder now
  pub others : StayOutside (leading (operand call.names 1) call.script) call.folder now
  pub later : NoneFalls call.folder.faults now.faults

-- whichever folder a call met that has come so far, this holds of the call
abbrev pub WherePrepared : Prepared → Request → FolderState → (Call → Type 0) → Type 0
WherePrepared ready request now Holds = (first : FolderState) → IsPrepared ready (call_for request first) now → Holds (call_for request first)

-- the same, once its script was read
abbrev pub WhereSetUp : Prepared → Option (List (ℕ × ScriptStep)) → List (List ℕ) → FolderState → (Call → Type 0) → Type 0
WhereSetUp ready script files now Holds = (call : Call) → IsSetUp ready script call now → files ≡ file_names call → Holds call
