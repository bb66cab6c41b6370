-- The form of the words of a command line.
use Rattle.std.specs.Prelude.{◌≡◌, ◌==◌, ◌&&◌, ◌++◌, ℕ, Bool, true, false, not, List, [], ◌∷◌, map, length, codes, nat_le, Option, Some, None, if◌then◌else◌, ◌||◌}
use Rattle.std.specs.List.{list_all, list_any}
use Rattle.std.specs.Str.{bytes_eq}
use Rattle.std.specs.Str.Parse.{digits_value}

abbrev pub Text : Type 0
Text = List ℕ

-- ---- words

-- not empty, and does not begin with `-`
abbrev pub is_operand : Text → Bool
is_operand [] = false
is_operand (b ∷ bs) = not (b == 45)

abbrev pub is_digit : ℕ → Bool
is_digit b = nat_le 48 b && nat_le b 57

-- 1 to 20 digits, and in its range
abbrev pub is_number : ℕ → ℕ → Text → Bool
is_number least most text = nat_le 1 (length text) && (nat_le (length text) 20 && (list_all is_digit text
    && (nat_le least (digits_value 10 text) && nat_le (digits_value 10 text) most)))

-- ---- commands

-- an operand: one word, a number, or one or more words in a row
pub data Kind : Type 0 where
  one : Kind
  number : ℕ → ℕ → Kind
  several : Kind

pub record Operand : Type 0 where
  pub id : Text
  pub kind : Kind

-- an option with a number, and the number's range
pub record Ranged : Type 0 where
  pub name : Text
  pub least : ℕ
  pub most : ℕ

pub record Form : Type 0 where
  pub command : Text
  pub operands : List Operand
  pub flags : List Text
  pub numbers : List Ranged

abbrev pub limit : Ranged
limit = record { name = codes "limit"; least = 1; most = 1099511627776 }

abbrev pub run_form : Form
run_form = record {
  command = codes "run";
  operands = record { id = codes "plan"; kind = one } ∷ record { id = codes "files"; kind = several } ∷ [];
  flags = codes "sorted" ∷ codes "trace" ∷ codes "check" ∷ [];
  numbers = record { name = codes "workers"; least = 0; most = 16 } ∷ limit ∷ [];
}

abbrev pub replay_form : Form
replay_form = record {
  command = codes "replay";
  operands = record { id = codes "plan"; kind = one } ∷ record { id = codes "script"; kind = one } ∷ record { id = codes "files"; kind = several } ∷ [];
  flags = codes "trace" ∷ [];
  numbers = limit ∷ [];
}

abbrev pub check_form : Form
check_form = record {
  command = codes "check";
  operands = record { id = codes "plan"; kind = one } ∷ [];
  flags = codes "print" ∷ [];
  numbers = [];
}

abbrev pub make_form : Form
make_form = record {
  command = codes "make";
  operands = record { id = codes "seed"; kind = number 0 2147483647 } ∷ record { id = codes "count"; kind = number 1 1000000 } ∷ [];
  flags = [];
  numbers = [];
}

-- ---- what stands behind the command

-- `--name`, `--name N` or `--name=N`
pub data Choice : Type 0 where
  flag : Text → Choice
  apart : Text → Text → Choice
  joined : Text → Text → Choice

-- an operand's words, or an option
pub data Part : Type 0 where
  operand : List Text → Part
  option : Choice → Part

abbrev pub dashed : Text → Text
dashed name = 45 ∷ 45 ∷ name

abbrev pub choice_words : Choice → List Text
choice_words (flag name) = dashed name ∷ []
choice_words (apart name digits) = dashed name ∷ digits ∷ []
choice_words (joined name digits) = (dashed name ++ 61 ∷ digits) ∷ []

abbrev pub part_words : Part → List Text
part_words (operand words) = words
part_words (option choice) = choice_words choice

abbrev pub words_of : List Part → List Text
words_of [] = []
words_of (part ∷ parts) = part_words part ++ words_of parts

abbrev pub operands_in : List Part → List (List Text)
operands_in [] = []
operands_in (operand words ∷ parts) = words ∷ operands_in parts
operands_in (option choice ∷ parts) = operands_in parts

abbrev pub options_in : List Part → List Choice
options_in [] = []
options_in (operand words ∷ parts) = options_in parts
options_in (option choice ∷ parts) = choice ∷ options_in parts

abbrev pub name_of : Choice → Text
name_of (flag name) = name
name_of (apart name digits) = name
name_of (joined name digits) = name

-- ---- the form

abbrev pub is_among : List Text → Text → Bool
is_among names name = list_any (bytes_eq name) names

abbrev pub fits_kind : Kind → List Text → Bool
fits_kind one (word ∷ []) = is_operand word
fits_kind (number least most) (word ∷ []) = is_number least most word
fits_kind several (word ∷ words) = list_all is_operand (word ∷ words)
fits_kind kind words = false

-- the command's operands in their order
abbrev pub fit_operands : List Operand → List (List Text) → Bool
fit_operands [] [] = true
fit_operands (o ∷ os) (words ∷ more) = fits_kind o.kind words && fit_operands os more
fit_operands os more = false

abbrev pub fits_range : Text → Text → Ranged → Bool
fits_range name digits r = bytes_eq name r.name && is_number r.least r.most digits

-- some option with a number has this name
abbrev pub is_numbered : Form → Text → Bool
is_numbered c name = list_any (λ (r : Ranged). bytes_eq name r.name) c.numbers

-- an option of the command's, its number in its range
abbrev pub fits_option : Form → Choice → Bool
fits_option c (flag name) = is_among c.flags name
fits_option c (apart name digits) = list_any (fits_range name digits) c.numbers
fits_option c (joined name digits) = list_any (fits_range name digits) c.numbers

abbrev pub no_repeat : List Text → Bool
no_repeat [] = true
no_repeat (x ∷ xs) = not (is_among xs x) && no_repeat xs

abbrev pub has_option : Text → List Choice → Bool
has_option name [] = false
has_option name (choice ∷ choices) = bytes_eq (name_of choice) name || has_option name choices

-- the digits of an option's number
abbrev pub digits_of : Choice → Option Text
digits_of (flag name) = None
digits_of (apart name digits) = Some digits
digits_of (joined name digits) = Some digits

-- the digits that were given with an option, if it was given
abbrev pub digits_in : Text → List Choice → Option Text
digits_in name [] = None
digits_in name (choice ∷ choices) = if bytes_eq (name_of choice) name then digits_of choice else digits_in name choices

abbrev pub all_words : List (List Text) → List Text
all_words [] = []
all_words (words ∷ more) = words ++ all_words more

-- the words of all operands in their order
abbrev pub operand_texts : List Part → List Text
operand_texts parts = all_words (operands_in parts)

-- what stands behind the command: the operands in their order, and any of its options, each at most once, anywhere between operands
pub record IsLine (c : Form) (parts : List Part) : Type 0 where
  pub operands : fit_operands c.operands (operands_in parts) ≡ true
  pub options : list_all (fits_option c) (options_in parts) ≡ true
  pub once : no_repeat (map name_of (options_in parts)) ≡ true
  pub not_both : (has_option (codes "sorted") (options_in parts) && has_option (codes "trace") (options_in parts)) ≡ false

-- the words are the command and these parts, and have the form
pub record Spells (words : List Text) (c : Form) (parts : List Part) : Type 0 where
  pub spelled : words ≡ c.command ∷ words_of parts
  pub line : IsLine c parts
