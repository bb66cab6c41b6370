-- The report of a run and the lines of the statuses, each with its line feed.
use Rattle.std.specs.Prelude.{ℕ, ℤ, ◌^◌, ◌-◌, min, ⊤, List, [], ◌∷◌, ◌++◌, map, length, codes}
use Rattle.std.specs.Fmt.{decimal, signed_decimal}
use Rattle.pj_pattern.specs.declared.element.Element.{Element}
use Rattle.pj_element.specs.declared.element.Reject.{Reject}
use Rattle.pj_element.specs.declared.element.Reject.TheVariants.{TooLong, NotElement, Arity, BadCell, WrongKind, Closed}
use Rattle.pj_element.specs.declared.tally.Tally.{Tally}
use Rattle.pj_element.specs.Runs.{rows_of, puncts_of, fed}
use Rattle.pj_plan.specs.declared.fault.PlanWhy.{PlanWhy}
use Rattle.pj_plan.specs.declared.fault.PlanWhy.TheVariants.{NotAPlan, UnknownStatement, BadShape, NameTwice, UnknownName, UnknownColumn, ColumnTwice, KindsDiffer, BadClass, BadScheme, UsedTwiceOrNever, TooMany, Output, Unreadable}
use Rattle.pj_report.specs.declared.status.Status.{Status}
use Rattle.pj_report.specs.declared.status.LimitOf.TheVariants.{Plan, Script, Node, File}
use Rattle.pj_report.specs.declared.status.Status.TheVariants.{Done, Usage, OpenFault, ReadFault, PlanRefused, FileCount, Unsafe, ScriptRefused, WriteFault, NoMemory, Limit}

abbrev pub reject_words : Reject → List ℕ
reject_words TooLong = codes "too long"
reject_words NotElement = codes "not an element"
reject_words (Arity want got) = codes "arity want " ++ decimal want ++ codes " got " ++ decimal got
reject_words (BadCell column) = codes "bad cell " ++ decimal column
reject_words (WrongKind column) = codes "wrong kind " ++ decimal column
reject_words (Closed line) = codes "closed by line " ++ decimal line

-- `# stream S tuples T punctuations P rejected R`
abbrev pub stream_line : List ℕ → Tally → List ℕ
stream_line name tally =
    fed (codes "# stream " ++ name ++ codes " tuples " ++ decimal tally.tuples ++ codes " punctuations " ++ decimal tally.puncts ++ codes " rejected " ++ decimal tally.rejected)

-- `# reject S line N WORDS`
abbrev pub reject_line : List ℕ → ℕ × Reject → List ℕ
reject_line name (line, why) = fed (codes "# reject " ++ name ++ codes " line " ++ decimal line ++ codes " " ++ reject_words why)

-- the lines of a stream: its counts, and its first rejects
abbrev pub stream_lines : List ℕ → Tally → List (List ℕ)
stream_lines name tally = stream_line name tally ∷ map (reject_line name) tally.listed

-- a count of result lines stops at the greatest number of 64 bits
abbrev pub counted_to : ℕ → ℕ
counted_to n = min n (2 ^ 64 - 1)

abbrev pub results_text : ℕ → ℕ → List ℕ
results_text rows puncts = fed (codes "# results " ++ decimal rows ++ codes " punctuations " ++ decimal puncts)

-- `# results R punctuations P`
abbrev pub results_line : List Element → List ℕ
results_line outputs = results_text (counted_to (length (rows_of outputs))) (counted_to (length (puncts_of outputs)))

-- `# peak J N`
abbrev pub peak_line : List ℕ → ℕ → List ℕ
peak_line name peak = fed (codes "# peak " ++ name ++ codes " " ++ decimal peak)

-- `# check N`
abbrev pub check_line : ℕ → List ℕ
check_line rows = fed (codes "# check " ++ decimal rows)

-- `# total X`: the sum of the last column of the result rows
abbrev pub total_line : ℤ → List ℕ
total_line total = fed (codes "# total " ++ signed_decimal total)

-- `# make SEED N`
abbrev pub make_line : ℕ → ℕ → List ℕ
make_line seed count = fed (codes "# make " ++ decimal seed ++ codes " " ++ decimal count)

-- the words of a plan's fault, behind its number
abbrev pub fault_words : PlanWhy → List ℕ
fault_words NotAPlan = codes " P1 not a plan"
fault_words UnknownStatement = codes " P2 unknown statement"
fault_words BadShape = codes " P3 bad shape"
fault_words NameTwice = codes " P4 name given twice"
fault_words UnknownName = codes " P5 unknown name"
fault_words UnknownColumn = codes " P6 unknown column"
fault_words ColumnTwice = codes " P7 column name twice"
fault_words KindsDiffer = codes " P8 kinds differ"
fault_words BadClass = codes " P9 bad class"
fault_words BadScheme = codes " P10 bad scheme"
fault_words UsedTwiceOrNever = codes " P11 used twice or never"
fault_words TooMany = codes " P12 too many"
fault_words Output = codes " P13 output"
fault_words Unreadable = codes " P14 unreadable line"

-- the line of a status, with its line feed; nothing where it has none, and for an unsafe plan, whose two lines have names of it.
-- What has a limit has this name
abbrev pub status_line : List ℕ → Status → List ℕ
status_line name Done = []
status_line name Usage = fed (codes "# usage: run PLAN FILE.. | replay PLAN SCRIPT FILE.. | check PLAN | make SEED N")
status_line name (PlanRefused line why) = fed (codes "# refused plan line " ++ decimal line ++ fault_words why)
status_line name (FileCount want got) = fed (codes "# refused files want " ++ decimal want ++ codes " got " ++ decimal got)
status_line name (Unsafe node risk) = []
status_line name (ScriptRefused line) = fed (codes "# refused script line " ++ decimal line)
status_line name (OpenFault operand) = fed (codes "# stopped open fault operand " ++ decimal operand)
status_line name (ReadFault operand) = fed (codes "# stopped read fault operand " ++ decimal operand)
status_line name WriteFault = []
status_line name NoMemory = fed (codes "# stopped no memory")
status_line name (Limit Plan) = fed (codes "# stopped limit plan")
status_line name (Limit Script) = fed (codes "# stopped limit script")
status_line name (Limit (Node node)) = fed (codes "# stopped limit node " ++ name)
status_line name (Limit (File stream)) = fed (codes "# stopped limit file " ++ name)

-- a status has a line, unless all was written, not all could be, or the lines have names of the plan
abbrev pub HasLine : Status → Type 0
HasLine Done = ⊥
HasLine Usage = ⊤
HasLine (PlanRefused line why) = ⊤
HasLine (FileCount want got) = ⊤
HasLine (Unsafe node risk) = ⊥
HasLine (ScriptRefused line) = ⊤
HasLine (OpenFault operand) = ⊤
HasLine (ReadFault operand) = ⊤
HasLine WriteFault = ⊥
HasLine NoMemory = ⊤
HasLine (Limit what) = ⊤

-- the exit status of the program
abbrev pub status_number : Status → ℕ
status_number Done = 0
status_number (PlanRefused line why) = 1
status_number (Unsafe node risk) = 2
status_number (OpenFault operand) = 3
status_number (ReadFault operand) = 3
status_number WriteFault = 4
status_number NoMemory = 5
status_number (Limit what) = 6
status_number (ScriptRefused line) = 7
status_number (FileCount want got) = 8
status_number Usage = 64
