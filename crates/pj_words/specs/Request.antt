-- The request that words make.
use Rattle.std.specs.Prelude.{◌≡◌, ◌↔◌, ◌≤◌, ◌&&◌, ◌||◌, ℕ, Bool, true, false, List, [], ◌∷◌, Option, Some, None, codes, length, drop, slice_get, slice_index_or, if◌then◌else◌, is_none}
use Rattle.std.specs.List.{list_all, list_any}
use Rattle.std.specs.Str.{bytes_eq}
use Rattle.std.specs.Str.Parse.{digits_value}
use Rattle.clap.specs.Lexer.{long_of}
use Rattle.pj_words.specs.declared.request.Request.{Request}
use Rattle.pj_words.specs.declared.request.Request.TheVariants.{Run, Replay, Check, Make}
use Rattle.pj_words.specs.declared.tables.Subcommand.{Subcommand}
use Rattle.pj_words.specs.declared.tables.Subcommand.TheVariants.{Run as Running, Replay as Replaying, Check as Checking, Make as Making}
use Rattle.pj_words.specs.Form.{Form, Part, Spells, Text, check_form, digits_in, has_option, is_operand, make_form, operand_texts, options_in, replay_form, run_form}
use Rattle.pj_words.specs.Found.{number_or}
use Rattle.pj_words.specs.Reader.{begins_dash, reads, start}

-- ---- what a line says

-- the words of the operands in their order, the digits that were given with an option, and whether an option was given
pub record Said : Type 0 where
  pub operands : List Text
  pub digits : Text → Option Text
  pub given : Text → Bool

abbrev pub word_at : ℕ → Said → Text
word_at n said = slice_index_or said.operands n []

-- the number of an option; n where it was not given
abbrev pub number_said : Text → ℕ → Said → ℕ
number_said name n said = number_or n (said.digits name)

abbrev pub limit_said : Said → ℕ
limit_said said = number_said (codes "limit") 1099511627776 said

-- the request of a line
abbrev pub request_by : Subcommand → Said → Request
request_by Running said = Run (word_at 0 said) (drop 1 said.operands) (number_said (codes "workers") 2 said) (said.given (codes "sorted"))
    (said.given (codes "trace")) (said.given (codes "check")) (limit_said said)
request_by Replaying said = Replay (word_at 0 said) (word_at 1 said) (drop 2 said.operands) (said.given (codes "trace")) (limit_said said)
request_by Checking said = Check (word_at 0 said) (said.given (codes "print"))
request_by Making said = Make (digits_value 10 (word_at 0 said)) (digits_value 10 (word_at 1 said))

-- ---- read from the words behind a command

-- `long_of` reads `--name` as `(name, None)` and `--name=text` as `(name, Some text)`; other words are `None`
abbrev pub is_named : Text → Option (Text × Option Text) → Bool
is_named name None = false
is_named name (Some p) = bytes_eq p.0 name

-- the word is this option
abbrev pub names_it : Text → Text → Bool
names_it name word = is_named name (long_of word)

abbrev pub is_given : List Text → Text → Bool
is_given words name = list_any (names_it name) words

-- an option's number: what stands behind `=`, or the next word
abbrev pub number_text : Option Text → List Text → Option Text
number_text None words = slice_get words 0
number_text (Some text) words = Some text

abbrev pub digits_here : Text → Option (Text × Option Text) → List Text → Option Text → Option Text
digits_here name None words later = later
digits_here name (Some p) words later = if bytes_eq p.0 name then number_text p.1 words else later

-- the number that stands with the option of this name
abbrev pub digits_given : List Text → Text → Option Text
digits_given [] name = None
digits_given (word ∷ words) name = digits_here name (long_of word) words (digits_given words name)

-- the word is an option, and the next word its number
abbrev pub wants_next : Option (Text × Option Text) → Bool
wants_next None = false
wants_next (Some p) = is_none p.1 && (bytes_eq p.0 (codes "workers") || bytes_eq p.0 (codes "limit"))

-- the words that are operands; the first of all is not, where it is the number of the option before
abbrev pub operands_from : Bool → List Text → List Text
operands_from is_next [] = []
operands_from true (word ∷ words) = operands_from false words
operands_from false (word ∷ words) = if begins_dash word then operands_from (wants_next (long_of word)) words else word ∷ operands_from false words

abbrev pub said_by : List Text → Said
said_by words = record { operands = operands_from false words; digits = digits_given words; given = is_given words }

-- ---- the request of all words

abbrev pub form_of : Subcommand → Form
form_of Running = run_form
form_of Replaying = replay_form
form_of Checking = check_form
form_of Making = make_form

abbrev pub subcommand_named : Text → Option Subcommand
subcommand_named word = if bytes_eq word (codes "run") then Some Running else (if bytes_eq word (codes "replay") then Some Replaying
    else (if bytes_eq word (codes "check") then Some Checking else (if bytes_eq word (codes "make") then Some Making else None)))

abbrev pub if_read : Option Subcommand → List Text → Option Subcommand
if_read None words = None
if_read (Some k) words = if reads (form_of k) words (start (form_of k)) then Some k else None

-- the command whose form the words have
abbrev pub subcommand_in : List Text → Option Subcommand
subcommand_in [] = None
subcommand_in (word ∷ words) = if_read (subcommand_named word) words

abbrev pub asked_by : Option Subcommand → List Text → Option Request
asked_by None words = None
asked_by (Some k) words = Some (request_by k (said_by words))

-- the request that the words make, if they have the form of a command
abbrev pub request_in : List Text → Option Request
request_in words = asked_by (subcommand_in words) (drop 1 words)

-- ---- the request of the form

abbrev pub given_in : List Part → Text → Bool
given_in parts name = has_option name (options_in parts)

abbrev pub number_in_parts : List Part → Text → Option Text
number_in_parts parts name = digits_in name (options_in parts)

abbrev pub said_in : List Part → Said
said_in parts = record { operands = operand_texts parts; digits = number_in_parts parts; given = given_in parts }

-- for one of the four commands, some parts of its form spell the words, and the request is the one of these parts
abbrev pub Asks : List Text → Request → Type 0
Asks words request = (k : Subcommand) × (parts : List Part) × Spells words (form_of k) parts × (request ≡ request_by k (said_in parts))

-- `request_in` gives the request exactly where words of the form ask for it
abbrev pub RequestsAreExact : Type 0
RequestsAreExact = (words : List Text) (request : Request) → (request_in words ≡ Some request) ↔ Asks words request

-- ---- what each request keeps

pub record IsRun (plan : Text) (files : List Text) (workers : ℕ) (sorted : Bool) (trace : Bool) (limit : ℕ) : Type 0 where
  pub plan_operand : is_operand plan ≡ true
  pub file_operands : list_all is_operand files ≡ true
  pub some_file : 1 ≤ length files
  pub workers_most : workers ≤ 16
  pub limit_least : 1 ≤ limit
  pub limit_most : limit ≤ 1099511627776
  pub not_both : (sorted && trace) ≡ false

pub record IsReplay (plan : Text) (script : Text) (files : List Text) (limit : ℕ) : Type 0 where
  pub plan_operand : is_operand plan ≡ true
  pub script_operand : is_operand script ≡ true
  pub file_operands : list_all is_operand files ≡ true
  pub some_file : 1 ≤ length files
  pub limit_least : 1 ≤ limit
  pub limit_most : limit ≤ 1099511627776

pub record IsMake (seed : ℕ) (count : ℕ) : Type 0 where
  pub seed_most : seed ≤ 2147483647
  pub count_least : 1 ≤ count
  pub count_most : count ≤ 1000000

-- the operands of a request are operands, and its numbers lie in their ranges
abbrev pub IsRequest : Request → Type 0
IsRequest (Run plan files workers sorted trace check limit) = IsRun plan files workers sorted trace limit
IsRequest (Replay plan script files trace limit) = IsReplay plan script files limit
IsRequest (Check plan print) = is_operand plan ≡ true
IsRequest (Make seed count) = IsMake seed count

abbrev pub RequestsKeep : Type 0
RequestsKeep = (words : List Text) (request : Request) → request_in words ≡ Some request → IsRequest request
