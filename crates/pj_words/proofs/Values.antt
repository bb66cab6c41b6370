-- The values that clap finds are those of the parts.
use Rattle.std.proofs.Common.{◌≡◌, ◌∙◌, Bool, cond, true, false, true≢false, refl, sym, ap, subst, List, [], ◌∷◌, Option, Some, None, codes, ◌||◌, if◌then◌else◌, is_some}
use Rattle.std.specs.List.{list_all, list_any}
use Rattle.std.specs.Prelude.{option_and_then, slice_get}
use Rattle.std.specs.Str.{bytes_eq}
use Rattle.std.proofs.lemmas.Slice.Eq.{bytes_eq-Decides}
use Rattle.clap.specs.Walk.{Row, first_of, has_row, one_of, row_text}
use Rattle.clap.specs.Simple.{Shape}
use Rattle.clap.proofs.WalkLemmas.{both}
use Rattle.pj_words.specs.Form.{Choice, Form, IsLine, Part, Text, apart, digits_in, fits_option, fits_range, flag, has_option, is_among, is_numbered, joined, options_in}
use Rattle.pj_words.proofs.Rows.{default_in, row_in, row_in-absent, row_in-defaults}
use Rattle.pj_words.proofs.Parts.{are_others, rows_from}
use Rattle.pj_words.proofs.Sound.{by_test, ranged_name}
use Rattle.pj_words.proofs.Taken.{found_rows, option_found, option_row}

abbrev first_in : Option Row → Option Text
first_in o = option_and_then (λ r. slice_get r.values 0) o

abbrev one_in : Option Row → Option Text
one_in o = option_and_then row_text o

none_has : (name : Text) (rows : List Row) → row_in name rows ≡ None → has_row name rows ≡ false
none_has name [] e = refl
none_has name (r ∷ rs) e = go (bytes_eq r.id name) e (none_has name rs)
  where
    go : (b : Bool) → cond b (Some r) (row_in name rs) ≡ None → (row_in name rs ≡ None → has_row name rs ≡ false) → (b || has_row name rs) ≡ false
    go true h ih = absurd (true≢false (ap is_some h))
    go false h ih = ih h

abbrev or_row : Option Row → Option Row → Option Row
or_row None o = o
or_row (Some r) o = Some r

-- the row of an option: as it was given, else its default
option_in : (s : Shape) (c : Form) (parts : List Part) (name : Text) → IsLine c parts → are_others c.operands name ≡ true
    → row_in name (found_rows s c parts) ≡ or_row (option_found name (options_in parts)) (default_in name s.rules)
option_in s c parts name line other = go (option_found name (options_in parts)) (option_row name c.operands parts other line.operands)
  where
    go : (o : Option Row) → row_in name (rows_from c.operands parts) ≡ o → row_in name (found_rows s c parts) ≡ or_row o (default_in name s.rules)
    go None e = row_in-absent name s.rules (rows_from c.operands parts) (none_has name _ e)
    go (Some r) e = row_in-defaults name s.rules (rows_from c.operands parts) r e

-- no flag has the name of an option with a number
pub flag_fits : (c : Form) (name other : Text) → is_among c.flags other ≡ true → bytes_eq other name ≡ true → is_among c.flags name ≡ true
flag_fits c name other e same = subst (λ (x : Text). is_among c.flags x ≡ true) ((bytes_eq-Decides other name).0 same) e

number_given : (c : Form) (name : Text) (chs : List Choice) → is_among c.flags name ≡ false → list_all (fits_option c) chs ≡ true
    → first_in (option_found name chs) ≡ digits_in name chs
number_given c name [] none fits = refl
number_given c name (flag other ∷ chs) none fits =
    let f = both (is_among c.flags other) _ fits in
    by_test _ (bytes_eq other name) (λ yes. absurd (true≢false (sym (flag_fits c name other f.0 yes) ∙ none))) (λ no. rw no (number_given c name chs none f.1))
number_given c name (apart other digits ∷ chs) none fits =
    by_test _ (bytes_eq other name) (λ yes. rw yes refl) (λ no. rw no (number_given c name chs none (both (list_any (fits_range other digits) c.numbers) _ fits).1))
number_given c name (joined other digits ∷ chs) none fits =
    by_test _ (bytes_eq other name) (λ yes. rw yes refl) (λ no. rw no (number_given c name chs none (both (list_any (fits_range other digits) c.numbers) _ fits).1))

number_fits : (c : Form) (name other digits : Text) → list_any (fits_range other digits) c.numbers ≡ true → bytes_eq other name ≡ true → is_numbered c name ≡ true
number_fits c name other digits e same = subst (λ (x : Text). is_numbered c x ≡ true) ((bytes_eq-Decides other name).0 same) (ranged_name other digits c.numbers e)

abbrev pub told : Bool → Text
told b = if b then codes "true" else codes "false"

flag_given : (c : Form) (name : Text) (chs : List Choice) (missing : Option Row) → one_in missing ≡ Some (codes "false") → is_numbered c name ≡ false → list_all (fits_option c) chs ≡ true
    → one_in (or_row (option_found name chs) missing) ≡ Some (told (has_option name chs))
flag_given c name [] missing is none fits = is
flag_given c name (flag other ∷ chs) missing is none fits =
    by_test _ (bytes_eq other name) (λ yes. rw yes refl) (λ no. rw no (flag_given c name chs missing is none (both (is_among c.flags other) _ fits).1))
flag_given c name (apart other digits ∷ chs) missing is none fits =
    let f = both (list_any (fits_range other digits) c.numbers) _ fits in
    by_test _ (bytes_eq other name) (λ yes. absurd (true≢false (sym (number_fits c name other digits f.0 yes) ∙ none))) (λ no. rw no (flag_given c name chs missing is none f.1))
flag_given c name (joined other digits ∷ chs) missing is none fits =
    let f = both (list_any (fits_range other digits) c.numbers) _ fits in
    by_test _ (bytes_eq other name) (λ yes. absurd (true≢false (sym (number_fits c name other digits f.0 yes) ∙ none))) (λ no. rw no (flag_given c name chs missing is none f.1))

first_missing : (o : Option Row) → first_in (or_row o None) ≡ first_in o
first_missing None = refl
first_missing (Some r) = refl

-- `get_str` of an option with a number
pub number_value : (s : Shape) (c : Form) (parts : List Part) (name : Text) → IsLine c parts → are_others c.operands name ≡ true → is_among c.flags name ≡ false → default_in name s.rules ≡ None
    → first_of name (found_rows s c parts) ≡ digits_in name (options_in parts)
number_value s c parts name line other none missing =
    ap first_in (option_in s c parts name line other) ∙ ap (λ o. first_in (or_row (option_found name (options_in parts)) o)) missing
    ∙ first_missing (option_found name (options_in parts)) ∙ number_given c name (options_in parts) none line.options

-- the text that `get_flag` reads
pub flag_value : (s : Shape) (c : Form) (parts : List Part) (name : Text) → IsLine c parts → are_others c.operands name ≡ true → is_numbered c name ≡ false
    → one_in (default_in name s.rules) ≡ Some (codes "false") → one_of name (found_rows s c parts) ≡ Some (told (has_option name (options_in parts)))
flag_value s c parts name line other none missing =
    ap one_in (option_in s c parts name line other) ∙ flag_given c name (options_in parts) (default_in name s.rules) missing none line.options
