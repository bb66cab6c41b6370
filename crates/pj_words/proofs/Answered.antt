-- What clap finds for the words of a command is what they say.
use Rattle.std.proofs.Common.{◌≡◌, ◌∙◌, ◌≤◌, ◌⊎◌, ◌&&◌, ◌||◌, not, inl, inr, ℕ, Bool, true, false, true≢false, refl, sym, ap, subst, arith, List, [], ◌∷◌, Option, Some, None, is_some, option_map, codes, length, nat_le, le-leb, leb-true, append-nil}
use Rattle.std.specs.List.{list_all, list_any}
use Rattle.std.specs.Option.{unwrap_or}
use Rattle.std.specs.Str.{bytes_eq}
use Rattle.std.specs.Str.Parse.{digits_value}
use Rattle.std.proofs.lemmas.Slice.Eq.{bytes_eq-Decides}
use Rattle.clap.specs.Lexer.{usize_max}
use Rattle.clap.specs.Simple.{Shape, subcommand_of}
use Rattle.clap.specs.Takes.{takes}
use Rattle.clap.specs.Walk.{Row, first_of}
use Rattle.clap.proofs.WalkLemmas.{both}
use Rattle.pj_words.specs.Clap.{pj_app}
use Rattle.pj_words.specs.Form.{Choice, Form, IsLine, Part, Ranged, Spells, Text, all_words, apart, check_form, digits_in, fit_operands, fits_option, fits_range, flag, has_option, is_among, is_digit, is_number, joined, make_form, operand_texts, operands_in, options_in, replay_form, run_form, words_of}
use Rattle.pj_words.specs.Found.{number_or}
use Rattle.pj_words.specs.Matches.{FitsNumber, IsFound, found_by, is_told, rows_under}
use Rattle.pj_words.specs.Request.{form_of, request_by, said_in}
use Rattle.pj_words.specs.declared.tables.Subcommand.{Subcommand}
use Rattle.pj_words.specs.declared.tables.Subcommand.TheVariants.{Run as Running, Replay as Replaying, Check as Checking, Make as Making}
use Rattle.pj_words.proofs.Sound.{by_test}
use Rattle.pj_words.proofs.Parts.{are_others}
use Rattle.pj_words.proofs.Rows.{default_in}
use Rattle.pj_words.proofs.Known.{check_shape, make_shape, replay_shape, run_shape}
use Rattle.pj_words.proofs.Lines.{CheckOperands, MakeOperands, ReplayOperands, RunOperands, check_line_found, check_line_taken, check_rows, make_line_found, make_line_taken, make_rows, replay_line_found, replay_line_taken, replay_rows, run_line_found, run_line_taken, run_rows}
use Rattle.pj_words.proofs.Taken.{found_rows}
use Rattle.pj_words.proofs.Values.{flag_value, number_value, told}

abbrev pub shape_of : Subcommand → Shape
shape_of Running = run_shape
shape_of Replaying = replay_shape
shape_of Checking = check_shape
shape_of Making = make_shape

-- ---- the operands

pub run_texts : (parts : List Part) (o : RunOperands (operands_in parts)) → operand_texts parts ≡ o.plan ∷ o.first ∷ o.more
run_texts parts o = ap all_words o.are ∙ ap (λ ws. o.plan ∷ o.first ∷ ws) (append-nil o.more)

pub replay_texts : (parts : List Part) (o : ReplayOperands (operands_in parts)) → operand_texts parts ≡ o.plan ∷ o.script ∷ o.first ∷ o.more
replay_texts parts o = ap all_words o.are ∙ ap (λ ws. o.plan ∷ o.script ∷ o.first ∷ ws) (append-nil o.more)

pub check_texts : (parts : List Part) (o : CheckOperands (operands_in parts)) → operand_texts parts ≡ o.plan ∷ []
check_texts parts o = ap all_words o.are

pub make_texts : (parts : List Part) (o : MakeOperands (operands_in parts)) → operand_texts parts ≡ o.seed ∷ o.count ∷ []
make_texts parts o = ap all_words o.are

-- ---- numbers in their ranges

or_else : (a b : Bool) → (not a || b) ≡ true → a ≡ true → b ≡ true
or_else true b e h = e
or_else false b e h = absurd (true≢false (sym h))

-- the ranges of these options lie within this one
abbrev pub all_within : Text → ℕ → ℕ → List Ranged → Bool
all_within name least most = list_all (λ (r : Ranged). not (bytes_eq name r.name) || (nat_le least r.least && nat_le r.most most))

wider_number : (l m least most : ℕ) (text : Text) → is_number l m text ≡ true → least ≤ l → m ≤ most → is_number least most text ≡ true
wider_number l m least most text e low high =
    let a = both (nat_le 1 (length text)) _ e in
    let b = both (nat_le (length text) 20) _ a.1 in
    let d = both (list_all is_digit text) _ b.1 in
    let v = both (nat_le l (digits_value 10 text)) _ d.1 in
    let above : nat_le least (digits_value 10 text) ≡ true = le-leb least (digits_value 10 text) (omega (arith, leb-true l (digits_value 10 text) v.0, low)) in
    let below : nat_le (digits_value 10 text) most ≡ true = le-leb (digits_value 10 text) most (omega (arith, leb-true (digits_value 10 text) m v.1, high)) in
    rw (a.0, b.0, d.0, above, below) refl

-- a number that was given lies in the range of its option
ranged_fits : (name digits : Text) (least most : ℕ) (rs : List Ranged) → all_within name least most rs ≡ true → list_any (fits_range name digits) rs ≡ true
    → is_number least most digits ≡ true
ranged_fits name digits least most [] all e = absurd (true≢false (sym e))
ranged_fits name digits least most (r ∷ rs) all e = by_test _ (fits_range name digits r)
    (λ yes.
    let n = both (bytes_eq name r.name) _ yes in
    let a = both (not (bytes_eq name r.name) || (nat_le least r.least && nat_le r.most most)) _ all in
    let w = both (nat_le least r.least) _ (or_else (bytes_eq name r.name) _ a.0 n.0) in
    wider_number r.least r.most least most digits n.1 (leb-true least r.least w.0) (leb-true r.most most w.1))
    (λ no. ranged_fits name digits least most rs (both (not (bytes_eq name r.name) || (nat_le least r.least && nat_le r.most most)) _ all).1 (rw no at e))

pub given_fits : (c : Form) (name : Text) (least most : ℕ) (chs : List Choice) (text : Text) → all_within name least most c.numbers ≡ true → is_among c.flags name ≡ false
    → list_all (fits_option c) chs ≡ true → digits_in name chs ≡ Some text → is_number least most text ≡ true
given_fits c name least most [] text all none fits e = absurd (true≢false (sym (ap is_some e)))
given_fits c name least most (flag other ∷ chs) text all none fits e =
    let f = both (is_among c.flags other) _ fits in
    by_test _ (bytes_eq other name) (λ yes. absurd (true≢false (sym (ap is_some (rw yes at e)))))
    (λ no. given_fits c name least most chs text all none f.1 (rw no at e))
given_fits c name least most (apart other digits ∷ chs) text all none fits e =
    let f = both (list_any (fits_range other digits) c.numbers) _ fits in
    by_test _ (bytes_eq other name)
    (λ yes.
    let same = (bytes_eq-Decides other name).0 yes in
    let is : digits ≡ text = ap (λ o. unwrap_or o digits) (rw yes at e) in
    rw (← is) (ranged_fits name digits least most c.numbers all (rw same at f.0)))
    (λ no. given_fits c name least most chs text all none f.1 (rw no at e))
given_fits c name least most (joined other digits ∷ chs) text all none fits e =
    let f = both (list_any (fits_range other digits) c.numbers) _ fits in
    by_test _ (bytes_eq other name)
    (λ yes.
    let same = (bytes_eq-Decides other name).0 yes in
    let is : digits ≡ text = ap (λ o. unwrap_or o digits) (rw yes at e) in
    rw (← is) (ranged_fits name digits least most c.numbers all (rw same at f.0)))
    (λ no. given_fits c name least most chs text all none f.1 (rw no at e))

number_found : (s : Shape) (c : Form) (parts : List Part) → IsLine c parts → (name : Text) (most : ℕ) → are_others c.operands name ≡ true → is_among c.flags name ≡ false
    → default_in name s.rules ≡ None → all_within name 0 most c.numbers ≡ true → FitsNumber name most (found_rows s c parts)
number_found s c parts line name most other none missing all text e =
    given_fits c name 0 most (options_in parts) text all none line.options (sym (number_value s c parts name line other none missing) ∙ e)

-- ---- flags

told_back : (b : Bool) → is_told (Some (told b)) ≡ b
told_back true = refl
told_back false = refl

flag_told : (b : Bool) {o : Option Text} → o ≡ Some (told b) → (o ≡ Some (codes "true")) ⊎ (o ≡ Some (codes "false"))
flag_told true e = inl e
flag_told false e = inr e

flag_is : (name : Text) (parts : List Part) {o : Option Text} → o ≡ Some (told (has_option name (options_in parts))) → is_told o ≡ has_option name (options_in parts)
flag_is name parts e = ap is_told e ∙ told_back (has_option name (options_in parts))

-- ---- each command

run_is : (parts : List Part) → IsLine run_form parts → found_by Running (found_rows run_shape run_form parts) ≡ request_by Running (said_in parts)
run_is parts line =
    let r = run_rows parts line in
    let workers = ap (number_or 2) (number_value run_shape run_form parts (codes "workers") line refl refl refl) in
    let limit = ap (number_or 1099511627776) (number_value run_shape run_form parts (codes "limit") line refl refl refl) in
    let sorted = flag_is (codes "sorted") parts (flag_value run_shape run_form parts (codes "sorted") line refl refl refl) in
    let trace = flag_is (codes "trace") parts (flag_value run_shape run_form parts (codes "trace") line refl refl refl) in
    let check = flag_is (codes "check") parts (flag_value run_shape run_form parts (codes "check") line refl refl refl) in
    rw (workers, limit, sorted, trace, check, r.plan, r.files, run_texts parts r.operands) refl

replay_is : (parts : List Part) → IsLine replay_form parts → found_by Replaying (found_rows replay_shape replay_form parts) ≡ request_by Replaying (said_in parts)
replay_is parts line =
    let r = replay_rows parts line in
    let limit = ap (number_or 1099511627776) (number_value replay_shape replay_form parts (codes "limit") line refl refl refl) in
    let trace = flag_is (codes "trace") parts (flag_value replay_shape replay_form parts (codes "trace") line refl refl refl) in
    rw (limit, trace, r.plan, r.script, r.files, replay_texts parts r.operands) refl

check_is : (parts : List Part) → IsLine check_form parts → found_by Checking (found_rows check_shape check_form parts) ≡ request_by Checking (said_in parts)
check_is parts line =
    let r = check_rows parts line in
    let print = flag_is (codes "print") parts (flag_value check_shape check_form parts (codes "print") line refl refl refl) in
    rw (print, r.plan, check_texts parts r.operands) refl

make_is : (parts : List Part) → IsLine make_form parts → found_by Making (found_rows make_shape make_form parts) ≡ request_by Making (said_in parts)
make_is parts line =
    let r = make_rows parts line in
    rw (r.seed, r.count, make_texts parts r.operands) refl

pub found_is : (k : Subcommand) (parts : List Part) → IsLine (form_of k) parts → found_by k (found_rows (shape_of k) (form_of k) parts) ≡ request_by k (said_in parts)
found_is Running parts line = run_is parts line
found_is Replaying parts line = replay_is parts line
found_is Checking parts line = check_is parts line
found_is Making parts line = make_is parts line

-- an operand that is a number
operand_number : (id seed : Text) (most least : ℕ) (rows : List Row) → first_of id rows ≡ Some seed → is_number least most seed ≡ true → FitsNumber id most rows
operand_number id seed most least rows is fits text e =
    let same : seed ≡ text = ap (λ o. unwrap_or o seed) (sym is ∙ e) in
    rw (← same) (wider_number least most 0 most seed fits (omega arith) (omega arith))

pub found_fits : (k : Subcommand) (parts : List Part) → IsLine (form_of k) parts → IsFound k (found_rows (shape_of k) (form_of k) parts)
found_fits Running parts line = record {
  workers = number_found run_shape run_form parts line (codes "workers") 16 refl refl refl refl;
  limit = number_found run_shape run_form parts line (codes "limit") 1099511627776 refl refl refl refl;
  sorted = flag_told (has_option (codes "sorted") (options_in parts)) (flag_value run_shape run_form parts (codes "sorted") line refl refl refl);
  trace = flag_told (has_option (codes "trace") (options_in parts)) (flag_value run_shape run_form parts (codes "trace") line refl refl refl);
  check = flag_told (has_option (codes "check") (options_in parts)) (flag_value run_shape run_form parts (codes "check") line refl refl refl);
}
found_fits Replaying parts line = record {
  limit = number_found replay_shape replay_form parts line (codes "limit") 1099511627776 refl refl refl refl;
  trace = flag_told (has_option (codes "trace") (options_in parts)) (flag_value replay_shape replay_form parts (codes "trace") line refl refl refl);
}
found_fits Checking parts line = record {
  print = flag_told (has_option (codes "print") (options_in parts)) (flag_value check_shape check_form parts (codes "print") line refl refl refl);
}
found_fits Making parts line =
    let r = make_rows parts line in
    let fit = subst (λ (xs : List (List Text)). fit_operands make_form.operands xs ≡ true) r.operands.are line.operands in
    let f = both (is_number 0 2147483647 r.operands.seed) _ fit in
    let g = both (is_number 1 1000000 r.operands.count) _ f.1 in
    record {
      seed = operand_number (codes "seed") r.operands.seed 2147483647 0 (found_rows make_shape make_form parts) (rw r.seed refl) f.0;
      count = operand_number (codes "count") r.operands.count 1000000 1 (found_rows make_shape make_form parts) (rw r.count refl) g.0;
    }

-- ---- clap takes the words, and what it finds

few_words : (words : List Text) (k : Subcommand) (parts : List Part) → Spells words (form_of k) parts → length words ≤ usize_max → length (words_of parts) ≤ usize_max
few_words words k parts s few = omega (arith, few, ap length s.spelled)

taken_by : (k : Subcommand) (parts : List Part) → IsLine (form_of k) parts → length (words_of parts) ≤ usize_max → takes pj_app ((form_of k).command ∷ words_of parts) ≡ true
taken_by Running parts line few = run_line_taken parts line few
taken_by Replaying parts line few = replay_line_taken parts line few
taken_by Checking parts line few = check_line_taken parts line few
taken_by Making parts line few = make_line_taken parts line few

found_for : (k : Subcommand) (parts : List Part) → IsLine (form_of k) parts → length (words_of parts) ≤ usize_max
    → subcommand_of pj_app ((form_of k).command ∷ words_of parts) ≡ Some ((form_of k).command, found_rows (shape_of k) (form_of k) parts)
found_for Running parts line few = run_line_found parts line few
found_for Replaying parts line few = replay_line_found parts line few
found_for Checking parts line few = check_line_found parts line few
found_for Making parts line few = make_line_found parts line few

pub line_taken : (words : List Text) (k : Subcommand) (parts : List Part) → Spells words (form_of k) parts → length words ≤ usize_max → takes pj_app words ≡ true
line_taken words k parts s few = rw s.spelled (taken_by k parts s.line (few_words words k parts s few))

pub line_found : (words : List Text) (k : Subcommand) (parts : List Part) → Spells words (form_of k) parts → length words ≤ usize_max
    → subcommand_of pj_app words ≡ Some ((form_of k).command, found_rows (shape_of k) (form_of k) parts)
line_found words k parts s few = rw s.spelled (found_for k parts s.line (few_words words k parts s few))

-- ---- the rows that were handed out

pub rows_here : (o : Option (Text × List Row)) (rows : List Row) → Some rows ≡ option_map (λ p. p.1) o → rows_under o ≡ rows
rows_here None rows e = absurd (true≢false (ap is_some e))
rows_here (Some p) rows e = sym (ap (λ o. unwrap_or o rows) e)

pub no_rows : (o : Option (Text × List Row)) → ◌≡◌ {A = Option (List Row)} None (option_map (λ p. p.1) o) → is_some o ≡ true → ⊥
no_rows None e some = true≢false (sym some)
no_rows (Some p) e some = true≢false (sym (ap is_some e))
