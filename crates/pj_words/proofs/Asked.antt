-- The request of the words is the one that their parts ask for.
use Rattle.std.proofs.Common.{◌≡◌, ◌∙◌, ◌≤◌, ◌↔◌, ℕ, true, false, true≢false, refl, sym, ap, ap₂, subst, arith, List, [], ◌∷◌, Option, Some, None, is_some, codes, drop, length, leb-true, nat_le}
use Rattle.std.specs.List.{list_all}
use Rattle.std.specs.Option.{unwrap_or}
use Rattle.std.specs.Str.{bytes_eq}
use Rattle.std.specs.Str.Parse.{digits_value}
use Rattle.std.proofs.lemmas.Slice.Eq.{bytes_eq-Decides}
use Rattle.clap.proofs.WalkLemmas.{both}
use Rattle.pj_words.specs.Form.{Choice, Form, IsLine, Part, Spells, Text, check_form, digits_in, fit_operands, fits_option, has_option, is_among, is_digit, is_number, is_operand, make_form, options_in, replay_form, run_form, words_of}
use Rattle.pj_words.specs.Found.{number_or}
use Rattle.pj_words.specs.Reader.{ReadsExactly, reads, start}
use Rattle.pj_words.specs.Request.{Asks, IsRequest, asked_by, form_of, if_read, is_given, request_by, request_in, said_by, said_in, subcommand_in, subcommand_named}
use Rattle.pj_words.specs.declared.request.Request.{Request}
use Rattle.pj_words.specs.declared.tables.Subcommand.{Subcommand}
use Rattle.pj_words.specs.declared.tables.Subcommand.TheVariants.{Run as Running, Replay as Replaying, Check as Checking, Make as Making}
use Rattle.pj_words.proofs.Answered.{all_within, check_texts, given_fits, make_texts, replay_texts, run_texts, shape_of}
use Rattle.pj_words.proofs.Exact.{check_exact, make_exact, replay_exact, run_exact}
use Rattle.pj_words.proofs.Known.{check_knows, check_shape, each_among, each_ranged, make_knows, make_shape, replay_knows, replay_shape, run_knows, run_shape}
use Rattle.pj_words.proofs.Lines.{check_rows, make_rows, replay_rows, run_rows}
use Rattle.pj_words.proofs.Parts.{Knows}
use Rattle.pj_words.proofs.Scans.{NextWords, digits_scan, given_scan, operands_scan, takes_next}
use Rattle.pj_words.proofs.Sound.{by_test}

-- ---- what is read is what the parts say

knows_for : (k : Subcommand) (ch : Choice) → fits_option (form_of k) ch ≡ true → Knows (shape_of k) ch
knows_for Running ch e = (run_knows ch e).0
knows_for Replaying ch e = (replay_knows ch e).0
knows_for Checking ch e = (check_knows ch e).0
knows_for Making ch e = (make_knows ch e).0

next_for : (k : Subcommand) → NextWords (form_of k)
next_for Running = record {
  flags = λ name e. each_among (λ x. takes_next x ≡ false) run_form.flags name (refl, (refl, (refl, tt))) e;
  numbers = λ name digits e. each_ranged (λ x. takes_next x ≡ true) run_form.numbers name digits (refl, (refl, tt)) e;
}
next_for Replaying = record {
  flags = λ name e. each_among (λ x. takes_next x ≡ false) replay_form.flags name (refl, tt) e;
  numbers = λ name digits e. each_ranged (λ x. takes_next x ≡ true) replay_form.numbers name digits (refl, tt) e;
}
next_for Checking = record {
  flags = λ name e. each_among (λ x. takes_next x ≡ false) check_form.flags name (refl, tt) e;
  numbers = λ name digits e. each_ranged (λ x. takes_next x ≡ true) check_form.numbers name digits tt e;
}
next_for Making = record {
  flags = λ name e. each_among (λ x. takes_next x ≡ false) make_form.flags name tt e;
  numbers = λ name digits e. each_ranged (λ x. takes_next x ≡ true) make_form.numbers name digits tt e;
}

said_same : (k : Subcommand) (parts : List Part) → IsLine (form_of k) parts → request_by k (said_by (words_of parts)) ≡ request_by k (said_in parts)
said_same Running parts line =
    let texts = operands_scan run_form run_shape (knows_for Running) (next_for Running) run_form.operands parts line.operands line.options in
    let given : (name : Text) → is_given (words_of parts) name ≡ has_option name (options_in parts) = λ name. given_scan run_form run_shape (knows_for Running) name run_form.operands parts line.operands line.options in
    let workers = digits_scan run_form run_shape (knows_for Running) (codes "workers") refl run_form.operands parts line.operands line.options in
    let limit = digits_scan run_form run_shape (knows_for Running) (codes "limit") refl run_form.operands parts line.operands line.options in
    rw (texts, workers, limit, given (codes "sorted"), given (codes "trace"), given (codes "check")) refl
said_same Replaying parts line =
    let texts = operands_scan replay_form replay_shape (knows_for Replaying) (next_for Replaying) replay_form.operands parts line.operands line.options in
    let trace = given_scan replay_form replay_shape (knows_for Replaying) (codes "trace") replay_form.operands parts line.operands line.options in
    let limit = digits_scan replay_form replay_shape (knows_for Replaying) (codes "limit") refl replay_form.operands parts line.operands line.options in
    rw (texts, limit, trace) refl
said_same Checking parts line =
    let texts = operands_scan check_form check_shape (knows_for Checking) (next_for Checking) check_form.operands parts line.operands line.options in
    let print = given_scan check_form check_shape (knows_for Checking) (codes "print") check_form.operands parts line.operands line.options in
    rw (texts, print) refl
said_same Making parts line =
    let texts = operands_scan make_form make_shape (knows_for Making) (next_for Making) make_form.operands parts line.operands line.options in
    rw texts refl

-- ---- the command

exact_for : (k : Subcommand) → ReadsExactly (form_of k)
exact_for Running = run_exact
exact_for Replaying = replay_exact
exact_for Checking = check_exact
exact_for Making = make_exact

none_some : {X : Type 0} {x : X} → None ≡ Some x → ⊥
none_some e = true≢false (sym (ap is_some e))

some_is : {X : Type 0} {x y : X} → Some x ≡ Some y → x ≡ y
some_is {x = x} e = ap (λ o. unwrap_or o x) e

named_is : (word : Text) (k : Subcommand) → subcommand_named word ≡ Some k → word ≡ (form_of k).command
named_is word k e = by_test _ (bytes_eq word (codes "run"))
    (λ run. (bytes_eq-Decides word (codes "run")).0 run ∙ ap (λ k. (form_of k).command) (some_is (rw run at e)))
    (λ a. by_test _ (bytes_eq word (codes "replay"))
    (λ replay. (bytes_eq-Decides word (codes "replay")).0 replay ∙ ap (λ k. (form_of k).command) (some_is (rw (a, replay) at e)))
    (λ b. by_test _ (bytes_eq word (codes "check"))
    (λ check. (bytes_eq-Decides word (codes "check")).0 check ∙ ap (λ k. (form_of k).command) (some_is (rw (a, b, check) at e)))
    (λ d. by_test _ (bytes_eq word (codes "make"))
    (λ make. (bytes_eq-Decides word (codes "make")).0 make ∙ ap (λ k. (form_of k).command) (some_is (rw (a, b, d, make) at e)))
    (λ f. absurd (none_some (rw (a, b, d, f) at e))))))

names_back : (k : Subcommand) → subcommand_named (form_of k).command ≡ Some k
names_back Running = refl
names_back Replaying = refl
names_back Checking = refl
names_back Making = refl

-- the words of a command are spelled by some parts
abbrev pub LineOf : List Text → Subcommand → Type 0
LineOf words k = (parts : List Part) × Spells words (form_of k) parts

read_line : (word : Text) (words : List Text) (k : Subcommand) → subcommand_named word ≡ Some k → reads (form_of k) words (start (form_of k)) ≡ true → LineOf (word ∷ words) k
read_line word words k named read =
    let f = (exact_for k words).0 read in
    (f.0, record { spelled = ap₂ (λ (w : Text) (ws : List Text). w ∷ ws) (named_is word k named) f.1; line = f.2 })

pub line_of : (words : List Text) (k : Subcommand) → subcommand_in words ≡ Some k → LineOf words k
line_of [] k e = absurd (none_some e)
line_of (word ∷ words) k e = go (subcommand_named word) refl e
  where
    go : (o : Option Subcommand) → subcommand_named word ≡ o → if_read o words ≡ Some k → LineOf (word ∷ words) k
    go None named h = absurd (none_some h)
    go (Some other) named h = by_test _ (reads (form_of other) words (start (form_of other)))
        (λ read. subst (LineOf (word ∷ words)) (some_is (rw read at h)) (read_line word words other named read))
        (λ no. absurd (none_some (rw no at h)))

line_back : (words : List Text) (k : Subcommand) (parts : List Part) → Spells words (form_of k) parts → subcommand_in words ≡ Some k
line_back words k parts s =
    let read : reads (form_of k) (words_of parts) (start (form_of k)) ≡ true = (exact_for k (words_of parts)).1 (parts, refl, s.line) in
    ap subcommand_in s.spelled ∙ ap (λ o. if_read o (words_of parts)) (names_back k) ∙ rw read refl

-- ---- the request

pub request_is : (words : List Text) (k : Subcommand) (parts : List Part) → subcommand_in words ≡ Some k → Spells words (form_of k) parts
    → request_in words ≡ Some (request_by k (said_in parts))
request_is words k parts e s = ap₂ asked_by e (ap (drop 1) s.spelled) ∙ ap (λ r. Some r) (said_same k parts s.line)

asks : (words : List Text) (request : Request) → request_in words ≡ Some request → Asks words request
asks words request e = go (subcommand_in words) refl e
  where
    go : (o : Option Subcommand) → subcommand_in words ≡ o → asked_by o (drop 1 words) ≡ Some request → Asks words request
    go None is h = absurd (none_some h)
    go (Some k) is h =
        let l = line_of words k is in
        (k, l.0, l.1, some_is (sym e ∙ request_is words k l.0 is l.1))

pub requests_exact : (words : List Text) (request : Request) → (request_in words ≡ Some request) ↔ Asks words request
requests_exact words request = (asks words request, λ a. request_is words a.0 a.1 (line_back words a.0 a.1 a.2) a.2 ∙ ap (λ r. Some r) (sym a.3))

-- ---- what each request keeps

record Between (least most n : ℕ) : Type 0 where
  pub low : least ≤ n
  pub high : n ≤ most

number_between : (least most : ℕ) (text : Text) → is_number least most text ≡ true → Between least most (digits_value 10 text)
number_between least most text e =
    let a = both (nat_le 1 (length text)) _ e in
    let b = both (nat_le (length text) 20) _ a.1 in
    let d = both (list_all is_digit text) _ b.1 in
    let v = both (nat_le least (digits_value 10 text)) _ d.1 in
    record { low = leb-true least (digits_value 10 text) v.0; high = leb-true (digits_value 10 text) most v.1 }

option_between : (c : Form) (name : Text) (least most n : ℕ) (parts : List Part) → all_within name least most c.numbers ≡ true → is_among c.flags name ≡ false → IsLine c parts
    → Between least most n → Between least most (number_or n (digits_in name (options_in parts)))
option_between c name least most n parts all none line between = go (digits_in name (options_in parts)) refl
  where
    go : (o : Option Text) → digits_in name (options_in parts) ≡ o → Between least most (number_or n o)
    go None is = between
    go (Some text) is = number_between least most text (given_fits c name least most (options_in parts) text all none line.options is)

run_keeps : (parts : List Part) → IsLine run_form parts → IsRequest (request_by Running (said_in parts))
run_keeps parts line =
    let o = (run_rows parts line).operands in
    let fit = subst (λ (xs : List (List Text)). fit_operands run_form.operands xs ≡ true) o.are line.operands in
    let plan = both (is_operand o.plan) _ fit in
    let files = both (list_all is_operand (o.first ∷ o.more)) _ plan.1 in
    let workers = option_between run_form (codes "workers") 0 16 2 parts refl refl line (record { low = omega arith; high = omega arith }) in
    let limit = option_between run_form (codes "limit") 1 1099511627776 1099511627776 parts refl refl line (record { low = omega arith; high = omega arith }) in
    rw (run_texts parts o) (record {
      plan_operand = plan.0;
      file_operands = files.0;
      some_file = omega arith;
      workers_most = workers.high;
      limit_least = limit.low;
      limit_most = limit.high;
      not_both = line.not_both;
    })

replay_keeps : (parts : List Part) → IsLine replay_form parts → IsRequest (request_by Replaying (said_in parts))
replay_keeps parts line =
    let o = (replay_rows parts line).operands in
    let fit = subst (λ (xs : List (List Text)). fit_operands replay_form.operands xs ≡ true) o.are line.operands in
    let plan = both (is_operand o.plan) _ fit in
    let script = both (is_operand o.script) _ plan.1 in
    let files = both (list_all is_operand (o.first ∷ o.more)) _ script.1 in
    let limit = option_between replay_form (codes "limit") 1 1099511627776 1099511627776 parts refl refl line (record { low = omega arith; high = omega arith }) in
    rw (replay_texts parts o) (record {
      plan_operand = plan.0;
      script_operand = script.0;
      file_operands = files.0;
      some_file = omega arith;
      limit_least = limit.low;
      limit_most = limit.high;
    })

check_keeps : (parts : List Part) → IsLine check_form parts → IsRequest (request_by Checking (said_in parts))
check_keeps parts line =
    let o = (check_rows parts line).operands in
    let fit = subst (λ (xs : List (List Text)). fit_operands check_form.operands xs ≡ true) o.are line.operands in
    rw (check_texts parts o) (both (is_operand o.plan) _ fit).0

make_keeps : (parts : List Part) → IsLine make_form parts → IsRequest (request_by Making (said_in parts))
make_keeps parts line =
    let o = (make_rows parts line).operands in
    let fit = subst (λ (xs : List (List Text)). fit_operands make_form.operands xs ≡ true) o.are line.operands in
    let seed = both (is_number 0 2147483647 o.seed) _ fit in
    let count = both (is_number 1 1000000 o.count) _ seed.1 in
    let s = number_between 0 2147483647 o.seed seed.0 in
    let n = number_between 1 1000000 o.count count.0 in
    rw (make_texts parts o) (record { seed_most = s.high; count_least = n.low; count_most = n.high })

keeps : (k : Subcommand) (parts : List Part) → IsLine (form_of k) parts → IsRequest (request_by k (said_in parts))
keeps Running parts line = run_keeps parts line
keeps Replaying parts line = replay_keeps parts line
keeps Checking parts line = check_keeps parts line
keeps Making parts line = make_keeps parts line

pub requests_keep : (words : List Text) (request : Request) → request_in words ≡ Some request → IsRequest request
requests_keep words request e = let a = asks words request e in subst IsRequest (sym a.3) (keeps a.0 a.1 a.2.line)
