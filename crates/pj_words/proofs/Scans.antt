-- What is read from the words behind a command is what their parts say.
use Rattle.std.proofs.Common.{◌≡◌, ◌∙◌, ◌++◌, ℕ, Bool, true, false, true≢false, refl, sym, ap, List, [], ◌∷◌, None, codes, ◌||◌}
use Rattle.std.specs.List.{list_all, list_any}
use Rattle.std.specs.Str.{bytes_eq}
use Rattle.clap.specs.Lexer.{long_of}
use Rattle.clap.specs.Simple.{Shape}
use Rattle.clap.proofs.WalkLemmas.{both}
use Rattle.pj_words.specs.Form.{Choice, Form, Kind, Operand, Part, Ranged, Text, apart, digits_in, fit_operands, fits_kind, fits_option, fits_range, flag, has_option, is_among, is_number, is_operand, joined, number, one, operand, operand_texts, operands_in, option, options_in, several, words_of}
use Rattle.pj_words.specs.Reader.{begins_dash}
use Rattle.pj_words.specs.Request.{digits_given, is_given, operands_from}
use Rattle.pj_words.proofs.Complete.{digit_no_dash, no_dash}
use Rattle.pj_words.proofs.Sound.{by_test}
use Rattle.pj_words.proofs.Parts.{Knows, digit_word, operand_word}
use Rattle.pj_words.proofs.Values.{flag_fits}

-- a word that is no option
pub record Plain (word : Text) : Type 0 where
  pub dash : begins_dash word ≡ false
  pub long : long_of word ≡ None

abbrev AllPlain : List Text → Type 0
AllPlain [] = Unit {0}
AllPlain (word ∷ words) = Plain word × AllPlain words

operand_plain : (word : Text) → is_operand word ≡ true → Plain word
operand_plain word e = record { dash = no_dash word e; long = (operand_word word e).long }

operands_plain : (words : List Text) → list_all is_operand words ≡ true → AllPlain words
operands_plain [] e = tt
operands_plain (word ∷ words) e = let b = both (is_operand word) _ e in (operand_plain word b.0, operands_plain words b.1)

digits_plain : (least most : ℕ) (word : Text) → is_number least most word ≡ true → Plain word
digits_plain least most word e = record { dash = digit_no_dash least most word e; long = (digit_word least most word e).long }

kind_plain : (k : Kind) (words : List Text) → fits_kind k words ≡ true → AllPlain words
kind_plain k [] e = tt
kind_plain one (word ∷ []) e = (operand_plain word e, tt)
kind_plain one (word ∷ x ∷ xs) e = absurd (true≢false (sym e))
kind_plain (number least most) (word ∷ []) e = (digits_plain least most word e, tt)
kind_plain (number least most) (word ∷ x ∷ xs) e = absurd (true≢false (sym e))
kind_plain several (word ∷ words) e = operands_plain (word ∷ words) e

-- the digits of an option
range_plain : (name digits : Text) (rs : List Ranged) → list_any (fits_range name digits) rs ≡ true → Plain digits
range_plain name digits [] e = absurd (true≢false (sym e))
range_plain name digits (r ∷ rs) e = by_test _ (fits_range name digits r)
    (λ yes. digits_plain r.least r.most digits (both (bytes_eq name r.name) _ yes).1)
    (λ no. range_plain name digits rs (rw no at e))

-- ---- words that are no options

operands_plain_first : (words more : List Text) → AllPlain words → operands_from false (words ++ more) ≡ words ++ operands_from false more
operands_plain_first [] more all = refl
operands_plain_first (word ∷ words) more all = rw all.0.dash (ap (λ ws. word ∷ ws) (operands_plain_first words more all.1))

given_plain : (name : Text) (words more : List Text) → AllPlain words → is_given (words ++ more) name ≡ is_given more name
given_plain name [] more all = refl
given_plain name (word ∷ words) more all = rw all.0.long (given_plain name words more all.1)

digits_plain_first : (name : Text) (words more : List Text) → AllPlain words → digits_given (words ++ more) name ≡ digits_given more name
digits_plain_first name [] more all = refl
digits_plain_first name (word ∷ words) more all = rw all.0.long (digits_plain_first name words more all.1)

-- the options of a number take it from the next word, and no other option does
abbrev pub takes_next : Text → Bool
takes_next name = bytes_eq name (codes "workers") || bytes_eq name (codes "limit")

pub record NextWords (c : Form) : Type 0 where
  pub flags : (name : Text) → is_among c.flags name ≡ true → takes_next name ≡ false
  pub numbers : (name digits : Text) → list_any (fits_range name digits) c.numbers ≡ true → takes_next name ≡ true

module _ (c : Form) (s : Shape) (knows : (ch : Choice) → fits_option c ch ≡ true → Knows s ch) where
  pub operands_scan : NextWords c → (os : List Operand) (parts : List Part) → fit_operands os (operands_in parts) ≡ true → list_all (fits_option c) (options_in parts) ≡ true
      → operands_from false (words_of parts) ≡ operand_texts parts
  operands_scan next os [] fit fits = refl
  operands_scan next [] (operand words ∷ parts) fit fits = absurd (true≢false (sym fit))
  operands_scan next (o ∷ os) (operand words ∷ parts) fit fits =
      let f = both (fits_kind o.kind words) _ fit in
      operands_plain_first words (words_of parts) (kind_plain o.kind words f.0) ∙ ap (λ ws. words ++ ws) (operands_scan next os parts f.1 fits)
  operands_scan next os (option (flag name) ∷ parts) fit fits =
      let f = both (is_among c.flags name) _ fits in
      rw ((knows (flag name) f.0).long, next.flags name f.0) (operands_scan next os parts fit f.1)
  operands_scan next os (option (apart name digits) ∷ parts) fit fits =
      let f = both (list_any (fits_range name digits) c.numbers) _ fits in
      rw ((knows (apart name digits) f.0).long, next.numbers name digits f.0) (operands_scan next os parts fit f.1)
  operands_scan next os (option (joined name digits) ∷ parts) fit fits =
      let f = both (list_any (fits_range name digits) c.numbers) _ fits in
      rw ((knows (joined name digits) f.0).long_joined digits) (operands_scan next os parts fit f.1)

  pub given_scan : (name : Text) (os : List Operand) (parts : List Part) → fit_operands os (operands_in parts) ≡ true → list_all (fits_option c) (options_in parts) ≡ true
      → is_given (words_of parts) name ≡ has_option name (options_in parts)
  given_scan name os [] fit fits = refl
  given_scan name [] (operand words ∷ parts) fit fits = absurd (true≢false (sym fit))
  given_scan name (o ∷ os) (operand words ∷ parts) fit fits =
      let f = both (fits_kind o.kind words) _ fit in
      given_plain name words (words_of parts) (kind_plain o.kind words f.0) ∙ given_scan name os parts f.1 fits
  given_scan name os (option (flag other) ∷ parts) fit fits =
      let f = both (is_among c.flags other) _ fits in
      rw ((knows (flag other) f.0).long) (ap (λ t. bytes_eq other name || t) (given_scan name os parts fit f.1))
  given_scan name os (option (apart other digits) ∷ parts) fit fits =
      let f = both (list_any (fits_range other digits) c.numbers) _ fits in
      rw ((knows (apart other digits) f.0).long, (range_plain other digits c.numbers f.0).long) (ap (λ t. bytes_eq other name || t) (given_scan name os parts fit f.1))
  given_scan name os (option (joined other digits) ∷ parts) fit fits =
      let f = both (list_any (fits_range other digits) c.numbers) _ fits in
      rw ((knows (joined other digits) f.0).long_joined digits) (ap (λ t. bytes_eq other name || t) (given_scan name os parts fit f.1))

  pub digits_scan : (name : Text) → is_among c.flags name ≡ false → (os : List Operand) (parts : List Part) → fit_operands os (operands_in parts) ≡ true
      → list_all (fits_option c) (options_in parts) ≡ true → digits_given (words_of parts) name ≡ digits_in name (options_in parts)
  digits_scan name none os [] fit fits = refl
  digits_scan name none [] (operand words ∷ parts) fit fits = absurd (true≢false (sym fit))
  digits_scan name none (o ∷ os) (operand words ∷ parts) fit fits =
      let f = both (fits_kind o.kind words) _ fit in
      digits_plain_first name words (words_of parts) (kind_plain o.kind words f.0) ∙ digits_scan name none os parts f.1 fits
  digits_scan name none os (option (flag other) ∷ parts) fit fits =
      let f = both (is_among c.flags other) _ fits in
      by_test _ (bytes_eq other name)
      (λ yes. absurd (true≢false (sym (flag_fits c name other f.0 yes) ∙ none)))
      (λ no. rw ((knows (flag other) f.0).long, no) (digits_scan name none os parts fit f.1))
  digits_scan name none os (option (apart other digits) ∷ parts) fit fits =
      let f = both (list_any (fits_range other digits) c.numbers) _ fits in
      by_test _ (bytes_eq other name)
      (λ yes. rw ((knows (apart other digits) f.0).long, yes) refl)
      (λ no. rw ((knows (apart other digits) f.0).long, no, (range_plain other digits c.numbers f.0).long) (digits_scan name none os parts fit f.1))
  digits_scan name none os (option (joined other digits) ∷ parts) fit fits =
      let f = both (list_any (fits_range other digits) c.numbers) _ fits in
      by_test _ (bytes_eq other name)
      (λ yes. rw ((knows (joined other digits) f.0).long_joined digits, yes) refl)
      (λ no. rw ((knows (joined other digits) f.0).long_joined digits, no) (digits_scan name none os parts fit f.1))
