-- What the program's reader keeps, as the state of the reading.
use Rattle.std.specs.Prelude.{◌≡◌, Bool, true, false, List, [], ◌∷◌, Option, Some, None, codes, drop, ℕ, if◌then◌else◌, is_some, option_map}
use Rattle.pj_words.specs.declared.tables.Subcommand.{Subcommand}
use Rattle.pj_words.specs.declared.tables.Subcommand.TheVariants.{Run as Running, Replay as Replaying, Check as Checking, Make as Making}
use Rattle.pj_words.specs.declared.tables.Kind.{Kind as Shape}
use Rattle.pj_words.specs.declared.tables.Kind.TheVariants.{One, Number, Several}
use Rattle.pj_words.specs.declared.tables.Name.{Name}
use Rattle.pj_words.specs.declared.tables.Name.TheVariants.{Workers, Limit, Sorted, Trace, Check, Print}
use Rattle.pj_words.specs.declared.reader.Given.{Given}
use Rattle.pj_words.specs.declared.reader.Seen.{Seen as State}
use Rattle.std.specs.List.{list_any}
use Rattle.pj_words.specs.Form.{Kind, Text, fits_range, is_among, is_number, is_numbered, number, one, several}
use Rattle.pj_words.specs.Reader.{Seen, goes_on, reads}
use Rattle.pj_words.specs.Request.{form_of}

-- ---- the tables

abbrev pub name_text : Name → Text
name_text Workers = codes "workers"
name_text Limit = codes "limit"
name_text Sorted = codes "sorted"
name_text Trace = codes "trace"
name_text Check = codes "check"
name_text Print = codes "print"

abbrev pub all_names : List Text
all_names = codes "workers" ∷ codes "limit" ∷ codes "sorted" ∷ codes "trace" ∷ codes "check" ∷ codes "print" ∷ []

abbrev pub IsName : Text → Option Name → Type 0
IsName text None = is_among all_names text ≡ false
IsName text (Some name) = text ≡ name_text name

abbrev pub kind_of : Shape → Kind
kind_of One = one
kind_of (Number least most) = number least most
kind_of Several = several

abbrev pub kinds_of : Subcommand → List Shape
kinds_of Running = One ∷ Several ∷ []
kinds_of Replaying = One ∷ One ∷ Several ∷ []
kinds_of Checking = One ∷ []
kinds_of Making = Number 0 2147483647 ∷ Number 1 1000000 ∷ []

-- the digits are a number in this range, where there is one
abbrev pub within : Option (ℕ × ℕ) → Text → Bool
within None digits = false
within (Some r) digits = is_number r.0 r.1 digits

-- the range of the numbers of an option, where the command has it
pub record IsRangeOf (k : Subcommand) (name : Text) (range : Option (ℕ × ℕ)) : Type 0 where
  pub numbered : is_numbered (form_of k) name ≡ is_some range
  pub fits : (digits : Text) → list_any (fits_range name digits) (form_of k).numbers ≡ within range digits

-- ---- the options that were given

abbrev pub has_mark : Given → Name → Bool
has_mark g Workers = g.workers
has_mark g Limit = g.limit
has_mark g Sorted = g.sorted
has_mark g Trace = g.trace
has_mark g Check = g.check
has_mark g Print = g.print

abbrev pub with_mark : Given → Name → Given
with_mark g Workers = record g { workers = true }
with_mark g Limit = record g { limit = true }
with_mark g Sorted = record g { sorted = true }
with_mark g Trace = record g { trace = true }
with_mark g Check = record g { check = true }
with_mark g Print = record g { print = true }

-- the names that are marked
abbrev pub marked : List (Bool × Text) → List Text
marked [] = []
marked (p ∷ ps) = if p.0 then p.1 ∷ marked ps else marked ps

abbrev pub marks : Given → List (Bool × Text)
marks g = (g.workers, codes "workers") ∷ (g.limit, codes "limit") ∷ (g.sorted, codes "sorted") ∷ (g.trace, codes "trace")
    ∷ (g.check, codes "check") ∷ (g.print, codes "print") ∷ []

abbrev pub names_given : Given → List Text
names_given g = marked (marks g)

-- ---- the state

-- what is kept, as the reading's state
abbrev pub seen_by : Subcommand → State → Seen
seen_by k st = record { left = drop st.place (form_of k).operands; inside = st.inside; names = names_given st.given; wants = option_map name_text st.wants }

-- whether the words are read from here on
abbrev pub reads_from : Subcommand → Option State → List Text → Bool
reads_from k None words = false
reads_from k (Some st) words = reads (form_of k) words (seen_by k st)

-- the step leads here
abbrev pub LeadsTo : Subcommand → Option Seen → Option State → Type 0
LeadsTo k step result = (words : List Text) → goes_on (reads (form_of k) words) step ≡ reads_from k result words
