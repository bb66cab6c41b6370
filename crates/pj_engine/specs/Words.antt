-- What the words of a command line ask for, over a folder.
use Rattle.std.specs.Prelude.{ℕ, ◌≡◌, List, map, Option, Some, None}
use Rattle.std.specs.String.{string_bytes}
use Rattle.std.specs.declared.string.String.{String}
use Rattle.std.specs.declared.alloc.Global.{Global}
use Rattle.pj_io.specs.States.{FolderState, SinkState}
use Rattle.pj_report.specs.declared.status.Status.{Status}
use Rattle.pj_alone.specs.Endings.{Ending, ending_of}
use Rattle.pj_words.specs.declared.request.Request.{Request}
use Rattle.pj_words.specs.Request.{request_in}
use Rattle.pj_prepare.specs.Calls.{Call, call_by, wanted}
use Rattle.pj_together.specs.Requests.{workers_of}

-- what the words ask for
abbrev pub asked_in : List (String Global) → Option Request
asked_in words = request_in (map string_bytes words)

abbrev pub call_of : List (String Global) → FolderState → Call
call_of words folder = call_by (wanted (asked_in words)) folder

-- the words ask for something
abbrev pub AsksSomething : List (String Global) → Type 0
AsksSomething words = (request : Request) × (asked_in words ≡ Some request)

-- how many workers they ask for: none where all is done on one thread
abbrev pub workers_by : Option Request → ℕ
workers_by None = 0
workers_by (Some request) = workers_of request

abbrev pub workers_in : List (String Global) → ℕ
workers_in words = workers_by (asked_in words)

-- how a call with these words ended
abbrev pub ended : List (String Global) → FolderState → Status → FolderState → SinkState → SinkState → Ending
ended words before status after old new = ending_of (call_of words before) status after old new
