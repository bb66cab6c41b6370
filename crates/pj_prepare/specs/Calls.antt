-- What is asked for, over a folder.
use Rattle.std.specs.Prelude.{◌≡◌, ℕ, ⊤, Bool, true, false, List, [], ◌∷◌, ◌++◌, length, Option, Some, None, Result, Ok, Err, IsTrue, slice_index_or}
use Rattle.pj_io.specs.States.{FolderState}
use Rattle.pj_plan.specs.declared.node.Outline.{Outline}
use Rattle.pj_plan.specs.declared.node.PlanNode.{PlanNode}
use Rattle.pj_report.specs.declared.writer.Form.{Form}
use Rattle.pj_report.specs.declared.writer.Form.TheVariants.{AsTheyCome, Sorted, Summed}
use Rattle.pj_words.specs.declared.request.Request.{Request}
use Rattle.pj_words.specs.declared.request.Request.TheVariants.{Run, Replay, Check, Make}
use Rattle.pj_feed.specs.Named.{AreTold, files_named}
use Rattle.pj_feed.specs.Opened.{IsReadToEnd}
use Rattle.pj_run.specs.Jobs.{Job}
use Rattle.pj_script.specs.declared.step.ScriptStep.{ScriptStep}
use Rattle.pj_script.specs.Reading.{script_read}
use Rattle.pj_prepare.specs.declared.calls.Options.{Options}
use Rattle.pj_prepare.specs.Plans.{plan_of}

-- ---- a call over a folder

-- What is asked for
pub data Task : Type 0 where
  -- nothing that there is
  nothing : Task
  -- a run of a plan over files, where a script may be played first
  running : Task
  -- a check of a plan, which is also printed or not
  checking : Bool → Task
  -- a run over an input that is made from this seed, of so many items
  making : ℕ → ℕ → Task

-- there is nothing such
abbrev pub is_nothing : Task → Bool
is_nothing nothing = true
is_nothing running = false
is_nothing (checking print) = false
is_nothing (making seed count) = false

-- it names the file of a plan
abbrev pub takes_plan : Task → Bool
takes_plan nothing = false
takes_plan running = true
takes_plan (checking print) = true
takes_plan (making seed count) = false

-- A call: what is asked for; the operands, which are the plan's name, that of a script, if there is one, and those of the streams'
-- files; which of them are the script's and the files'; how a run is to be made; and what the folder tells of itself before the call
pub record Call : Type 0 where
  pub task : Task
  pub names : List (List ℕ)
  pub script : Option (List ℕ)
  pub files : List (List ℕ)
  pub options : Options
  pub folder : FolderState

-- what a request wants: the same without the folder
pub record Wanted : Type 0 where
  pub task : Task
  pub names : List (List ℕ)
  pub script : Option (List ℕ)
  pub files : List (List ℕ)
  pub options : Options

abbrev pub form_by : Bool → Form
form_by true = Sorted
form_by false = AsTheyCome

-- the names of a script, if there is one
abbrev pub script_names : Option (List ℕ) → List (List ℕ)
script_names None = []
script_names (Some name) = name ∷ []

-- the operands that stand before those of the streams' files
abbrev pub leading : List ℕ → Option (List ℕ) → List (List ℕ)
leading plan script = plan ∷ script_names script

abbrev pub run_wanted : List ℕ → Option (List ℕ) → List (List ℕ) → Options → Wanted
run_wanted plan script files options =
    record { task = running; names = leading plan script ++ files; script = script; files = files; options = options }

-- of what is no run
abbrev pub no_options : Options
no_options = record { trace = false; limit = 0; form = AsTheyCome; check = false }

abbrev pub check_wanted : List ℕ → Bool → Wanted
check_wanted plan print = record { task = checking print; names = plan ∷ []; script = None; files = []; options = no_options }

-- a made input is run without notes, its results are summed, and as many elements may come to a join or a group as ever
abbrev pub make_options : Options
make_options = record { trace = false; limit = 1099511627776; form = Summed; check = false }

abbrev pub make_wanted : ℕ → ℕ → Wanted
make_wanted seed count = record { task = making seed count; names = []; script = None; files = []; options = make_options }

-- nothing that there is
abbrev pub nothing_wanted : Wanted
nothing_wanted = record { task = nothing; names = []; script = None; files = []; options = no_options }

abbrev pub wanted : Option Request → Wanted
wanted None = nothing_wanted
wanted (Some (Run plan files workers sorted trace check limit)) =
    run_wanted plan None files (record { trace = trace; limit = limit; form = form_by sorted; check = check })
wanted (Some (Replay plan script files trace limit)) =
    run_wanted plan (Some script) files (record { trace = trace; limit = limit; form = AsTheyCome; check = false })
wanted (Some (Check plan print)) = check_wanted plan print
wanted (Some (Make seed count)) = make_wanted seed count

abbrev pub call_by : Wanted → FolderState → Call
call_by want folder = record {
  task = want.task;
  names = want.names;
  script = want.script;
  files = want.files;
  options = want.options;
  folder = folder;
}

-- what a request asks for
abbrev pub call_for : Request → FolderState → Call
call_for request folder = call_by (wanted (Some request)) folder

-- ---- operands

-- the operand with this number, counted from 1
abbrev pub operand : List (List ℕ) → ℕ → List ℕ
operand names n = slice_index_or ([] ∷ names) n []

-- the operands behind the plan's
abbrev pub behind_first : List (List ℕ) → List (List ℕ)
behind_first [] = []
behind_first (name ∷ names) = names

-- the names of the streams' files
abbrev pub file_names : Call → List (List ℕ)
file_names call = call.files

-- the number of the first of them among the operands: behind the plan, or behind the script
abbrev pub first_by : Option (List ℕ) → ℕ
first_by None = 2
first_by (Some name) = 3

abbrev pub first_file : Call → ℕ
first_file call = first_by call.script

-- how many files a task has, where the plan is to have a stream for each
abbrev pub files_for : Task → ℕ → Option ℕ
files_for nothing count = None
files_for running count = Some count
files_for (checking print) count = None
files_for (making seed count) n = None

abbrev pub files_asked : Call → Option ℕ
files_asked call = files_for call.task (length (file_names call))

-- the bytes of the plan's file, and those of the streams' files
abbrev pub plan_bytes : Call → List ℕ
plan_bytes call = call.folder.contents (operand call.names 1)

abbrev pub stream_files : Call → List (List ℕ)
stream_files call = files_named (file_names call) call.folder

-- the plan is told
abbrev pub HasToldPlan : Call → Type 0
HasToldPlan call = IsTrue (call.folder.told (operand call.names 1))

-- the script is told, if there is one
abbrev pub IsToldIn : Option (List ℕ) → FolderState → Type 0
IsToldIn None folder = ⊤
IsToldIn (Some name) folder = IsTrue (folder.told name)

abbrev pub HasToldScript : Call → Type 0
HasToldScript call = IsToldIn call.script call.folder

-- plan and script are told
abbrev pub HasToldJob : Call → Type 0
HasToldJob call = HasToldPlan call × HasToldScript call

-- the plan's file was read to its end, if it names one and that is told
abbrev pub HasReadPlan : Call → FolderState → Type 0
HasReadPlan call after = takes_plan call.task ≡ true → HasToldPlan call → IsReadToEnd (operand call.names 1) call.folder after

-- plan, script and files are told
pub record IsTold (call : Call) : Type 0 where
  pub plan : HasToldPlan call
  pub script : HasToldScript call
  pub files : AreTold (file_names call) call.folder

-- ---- the job

-- the steps that were read, if no line was refused
abbrev pub steps_or : Result (List (ℕ × ScriptStep)) ℕ → List (ℕ × ScriptStep)
steps_or (Ok steps) = steps
steps_or (Err line) = []

-- the line that is refused, if one is
abbrev pub fault_or : Result (List (ℕ × ScriptStep)) ℕ → Option ℕ
fault_or (Ok steps) = None
fault_or (Err line) = Some line

-- the steps of a script over the nodes of a plan, if there is a script, where these are the contents of files by their names
abbrev pub steps_by : Option (List ℕ) → (List ℕ → List ℕ) → List PlanNode → Option (List (ℕ × ScriptStep))
steps_by None contents nodes = None
steps_by (Some name) contents nodes = Some (steps_or (script_read nodes (contents name)))

-- the first line of the script that is no step, if there is one
abbrev pub fault_by : Option (List ℕ) → (List ℕ → List ℕ) → List PlanNode → Option ℕ
fault_by None contents nodes = None
fault_by (Some name) contents nodes = fault_or (script_read nodes (contents name))

abbrev pub script_fault : Call → List PlanNode → Option ℕ
script_fault call nodes = fault_by call.script call.folder.contents nodes

-- a plan of these nodes that is run with these options, where a script may be played first
abbrev pub job_with : Options → Option (List (ℕ × ScriptStep)) → List PlanNode → Job
job_with options script nodes = record {
  nodes = nodes;
  trace = options.trace;
  limit = options.limit;
  script = script;
  form = options.form;
  check = options.check;
}

abbrev pub job_if : Call → Option Outline → Option Job
job_if call None = None
job_if call (Some plan) = Some (job_with call.options (steps_by call.script call.folder.contents plan.nodes) plan.nodes)

-- what the call runs, if the plan's bytes spell a plan
abbrev pub job_of : Call → Option Job
job_of call = job_if call (plan_of (plan_bytes call))
