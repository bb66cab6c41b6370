-- The reading of words one after the other, as a test.
use Rattle.std.specs.Prelude.{◌≡◌, ◌↔◌, ◌==◌, ◌&&◌, Bool, true, false, not, List, [], ◌∷◌, Option, Some, None, if◌then◌else◌, codes, is_none}
use Rattle.std.specs.List.{list_any}
use Rattle.std.specs.Str.{bytes_eq}
use Rattle.clap.specs.Lexer.{long_of}
use Rattle.pj_words.specs.Form.{Form, IsLine, Part, words_of, Kind, Operand, Text, fits_kind, fits_range, is_among, is_numbered, is_operand, several}

-- what was read: the operands still to come, whether one more FILE may follow, the options' names, and the option whose number is the next word
pub record Seen : Type 0 where
  pub left : List Operand
  pub inside : Bool
  pub names : List Text
  pub wants : Option Text

abbrev pub begins_dash : Text → Bool
begins_dash [] = false
begins_dash (b ∷ bs) = b == 45

abbrev pub may_repeat : Kind → Bool
may_repeat several = true
may_repeat kind = false

abbrev pub next_operand : Seen → List Operand → Text → Option Seen
next_operand st [] word = None
next_operand st (o ∷ os) word = if fits_kind o.kind (word ∷ []) then Some (record st { left = os; inside = may_repeat o.kind }) else None

abbrev pub operand_step : Seen → Text → Option Seen
operand_step st word = if st.inside && is_operand word then Some st else next_operand st st.left word

abbrev pub with_name : Seen → Text → Option Text → Seen
with_name st name wants = record st { inside = false; names = name ∷ st.names; wants = wants }

abbrev pub number_option : Form → Seen → Text → Option Seen
number_option c st name = if is_numbered c name then Some (with_name st name (Some name)) else None

abbrev pub new_option : Form → Seen → Text → Option Text → Option Seen
new_option c st name None = if is_among c.flags name then Some (with_name st name None) else number_option c st name
new_option c st name (Some digits) = if list_any (fits_range name digits) c.numbers then Some (with_name st name None) else None

abbrev pub option_step : Form → Seen → Option (Text × Option Text) → Option Seen
option_step c st None = None
option_step c st (Some p) = if is_among st.names p.0 then None else new_option c st p.0 p.1

abbrev pub word_step : Form → Seen → Option Text → Text → Option Seen
word_step c st (Some name) word = if list_any (fits_range name word) c.numbers then Some (record st { inside = false; wants = None }) else None
word_step c st None word = if begins_dash word then option_step c st (long_of word) else operand_step st word

abbrev pub step : Form → Seen → Text → Option Seen
step c st word = word_step c st st.wants word

abbrev pub has_name : List Text → Text → Bool
has_name names name = list_any (λ x. bytes_eq x name) names

abbrev pub is_done : List Operand → Bool
is_done [] = true
is_done (o ∷ os) = false

-- the words may end here
abbrev pub may_end : Seen → Bool
may_end st = is_none st.wants && (is_done st.left && not (has_name st.names (codes "sorted") && has_name st.names (codes "trace")))

abbrev pub goes_on : (Seen → Bool) → Option Seen → Bool
goes_on more None = false
goes_on more (Some st) = more st

abbrev pub reads : Form → List Text → Seen → Bool
reads c [] st = may_end st
reads c (word ∷ words) st = goes_on (reads c words) (step c st word)

abbrev pub start : Form → Seen
start c = record { left = c.operands; inside = false; names = []; wants = None }

-- the words behind the command have the form
abbrev pub HasForm : Form → List Text → Type 0
HasForm c words = (parts : List Part) × (words ≡ words_of parts) × IsLine c parts

-- the reader takes exactly the words of the form
abbrev pub ReadsExactly : Form → Type 0
ReadsExactly c = (words : List Text) → (reads c words (start c) ≡ true) ↔ HasForm c words
