-- The lines of notes and reports have no line feed but the one behind them.
use Rattle.std.specs.Fmt.{decimal, signed_decimal}
use Rattle.std.specs.List.{list_all}
use Rattle.std.specs.Prelude.{codes, nat_le, slice_get, ℤ}
use Rattle.std.proofs.Common.{◌≡◌, ◌≢◌, ℕ, zero, suc, Bool, true, false, cond, not, ◌==◌, inl, inr, List, [], ◌∷◌, ◌++◌, map, length, Option, Some, None, refl, ap, sym, ◌∙◌, subst, arith}
use Rattle.std.proofs.lemmas.Bool.{false≢true, and_from, and_parts}
use Rattle.std.proofs.lemmas.Bool.Decides.{nat_tests, eqb_tells}
use Rattle.pj_value.specs.declared.values.Value.{Value}
use Rattle.pj_value.specs.declared.values.Value.TheVariants.{Int}
use Rattle.pj_line.specs.Lines.{HasNo}
use Rattle.pj_line.proofs.Feeds.{has_no_both}
use Rattle.pj_pattern.specs.declared.element.Element.{Element}
use Rattle.pj_pattern.specs.Elements.{rows_of, puncts_of}
use Rattle.pj_element.specs.declared.element.Reject.{Reject}
use Rattle.pj_element.specs.declared.element.Reject.TheVariants.{TooLong, NotElement, Arity, BadCell, WrongKind, Closed}
use Rattle.pj_element.specs.declared.tally.Tally.{Tally}
use Rattle.pj_element.specs.Accepted.{fates_of, tally_of}
use Rattle.pj_element.specs.Elements.{row_line}
use Rattle.pj_element.proofs.Feeds.{decimal_no_feed, row_no_feed, value_no_feed}
use Rattle.pj_plan.specs.declared.node.PlanNode.{PlanNode}
use Rattle.pj_plan.specs.Canonical.{node_at, node_name}
use Rattle.pj_plan.specs.Names.{is_name_byte}
use Rattle.pj_plan.specs.Nodes.{inputs_of, is_stream, joins_of, streams_in}
use Rattle.pj_algebra.specs.Answers.{answer_of}
use Rattle.pj_events.specs.declared.events.Entry.{Entry}
use Rattle.pj_events.specs.Outcomes.{peak_of}
use Rattle.pj_core.specs.Plans.{RunPlan, nodes_of}
use Rattle.pj_report.specs.declared.writer.Form.{Form}
use Rattle.pj_report.specs.declared.writer.Form.TheVariants.{AsTheyCome, Sorted, Summed}
use Rattle.pj_report.specs.Forms.{total_in}
use Rattle.pj_report.specs.Report.{check_line, counted_to, peak_line, reject_line, reject_words, results_line, results_text, stream_line, stream_lines, total_line}
use Rattle.pj_report.specs.Results.{input_name, name_of, purge_line}
use Rattle.pj_report.proofs.Fronts.{AreNotes, IsNoteLine, notes-append}
use Rattle.pj_run.specs.Jobs.{Job}
use Rattle.pj_run.specs.Outcome.{tally_lines}
use Rattle.pj_run.specs.PlanNames.{HasShortNames, are_short, is_short}
use Rattle.pj_run.specs.Runs.{accepted_rows, check_in, form_report, history_of, peak_report, peaks_report, plan_run, report_of, streams_report}

-- ---- names

pub name_plain : (nodes : List PlanNode) (n : ℕ) → are_short nodes ≡ true → is_short (node_name nodes n) ≡ true
name_plain [] n e = refl
name_plain (node ∷ nodes) zero e = (and_parts (is_short node.name) (are_short nodes) e).0
name_plain (node ∷ nodes) (suc n) e = name_plain nodes n (and_parts (is_short node.name) (are_short nodes) e).1

pub streams_plain : (nodes : List PlanNode) → are_short nodes ≡ true → are_short (streams_in nodes) ≡ true
streams_plain [] e = refl
streams_plain (node ∷ nodes) e = let p = and_parts (is_short node.name) (are_short nodes) e in go (is_stream node.node) p.0 (streams_plain nodes p.1)
  where
    go : (b : Bool) → is_short node.name ≡ true → are_short (streams_in nodes) ≡ true → are_short (cond b (node ∷ streams_in nodes) (streams_in nodes)) ≡ true
    go true one more = and_from (is_short node.name) (are_short (streams_in nodes)) one more
    go false one more = more

-- ---- bytes without a line feed

abbrev pub no_feed_test : List ℕ → Bool
no_feed_test xs = list_all (λ b. not (b == 10)) xs

pub no_feeds : (xs : List ℕ) → no_feed_test xs ≡ true → HasNo 10 xs
no_feeds [] e = tt
no_feeds (x ∷ xs) e =
    let p = and_parts (not (x == 10)) (no_feed_test xs) e in
    (elim (eqb_tells x 10) [ inl same ↦ absurd (false≢true (ap not (sym same.0) ∙ p.0)) | inr other ↦ other.1 ], no_feeds xs p.1)

-- a name of small letters, digits and `_`
pub name_no_feed : (xs : List ℕ) → is_short xs ≡ true → HasNo 10 xs
name_no_feed xs e = go xs (and_parts (nat_le (length xs) 32) (list_all is_name_byte xs) e).1
  where
    name_byte : (x : ℕ) → is_name_byte x ≡ true → x ≢ 10
    name_byte x e = grind (arith, nat_tests)

    go : (xs : List ℕ) → list_all is_name_byte xs ≡ true → HasNo 10 xs
    go [] e = tt
    go (x ∷ xs) e = let p = and_parts (is_name_byte x) (list_all is_name_byte xs) e in (name_byte x p.0, go xs p.1)

-- no byte is a line feed
pub record NoFeed (xs : List ℕ) : Type 0 where
  pub it : HasNo 10 xs

pub and_then : {xs ys : List ℕ} → NoFeed xs → NoFeed ys → NoFeed (xs ++ ys)
and_then {xs} {ys} x y = record { it = has_no_both 10 xs ys x.it y.it }

pub literal : (xs : List ℕ) → no_feed_test xs ≡ true → NoFeed xs
literal xs e = record { it = no_feeds xs e }

pub number : (n : ℕ) → NoFeed (decimal n)
number n = record { it = decimal_no_feed n }

signed : (n : ℤ) → NoFeed (signed_decimal n)
signed n = record { it = value_no_feed (Int n) }

-- ---- notes

words_no_feed : (why : Reject) → NoFeed (reject_words why)
words_no_feed TooLong = literal (codes "too long") refl
words_no_feed NotElement = literal (codes "not an element") refl
words_no_feed (Arity want got) = and_then (and_then (and_then (literal (codes "arity want ") refl) (number want)) (literal (codes " got ") refl)) (number got)
words_no_feed (BadCell column) = and_then (literal (codes "bad cell ") refl) (number column)
words_no_feed (WrongKind column) = and_then (literal (codes "wrong kind ") refl) (number column)
words_no_feed (Closed line) = and_then (literal (codes "closed by line ") refl) (number line)

reject_note : (name : List ℕ) (r : ℕ × Reject) → HasNo 10 name → IsNoteLine (reject_line name r)
reject_note name r none =
    let named : NoFeed name = record { it = none } in
    let all : NoFeed (codes "# reject " ++ name ++ codes " line " ++ decimal r.0 ++ codes " " ++ reject_words r.1) =
    and_then (and_then (and_then (and_then (and_then (literal (codes "# reject ") refl) named) (literal (codes " line ") refl)) (number r.0)) (literal (codes " ") refl)) (words_no_feed r.1) in
    record { words = codes "# reject " ++ name ++ codes " line " ++ decimal r.0 ++ codes " " ++ reject_words r.1; is = refl; note = refl; whole = all.it }

rejects_note : (name : List ℕ) (rs : List (ℕ × Reject)) → HasNo 10 name → AreNotes (map (reject_line name) rs)
rejects_note name [] none = tt
rejects_note name (r ∷ rs) none = (reject_note name r none, rejects_note name rs none)

stream_note : (name : List ℕ) (tally : Tally) → HasNo 10 name → IsNoteLine (stream_line name tally)
stream_note name tally none =
    let named : NoFeed name = record { it = none } in
    let counts : NoFeed (codes "# stream " ++ name ++ codes " tuples " ++ decimal tally.tuples ++ codes " punctuations " ++ decimal tally.puncts ++ codes " rejected " ++ decimal tally.rejected) =
    and_then (and_then (and_then (and_then (and_then (and_then (and_then (literal (codes "# stream ") refl) named) (literal (codes " tuples ") refl)) (number tally.tuples))
    (literal (codes " punctuations ") refl)) (number tally.puncts)) (literal (codes " rejected ") refl)) (number tally.rejected) in
    record { words = codes "# stream " ++ name ++ codes " tuples " ++ decimal tally.tuples ++ codes " punctuations " ++ decimal tally.puncts ++ codes " rejected " ++ decimal tally.rejected; is = refl; note = refl; whole = counts.it }

stream_notes : (name : List ℕ) (tally : Tally) → HasNo 10 name → AreNotes (stream_lines name tally)
stream_notes name tally none = (stream_note name tally none, rejects_note name tally.listed none)

pub results_note : (rows puncts : ℕ) → IsNoteLine (results_text rows puncts)
results_note rows puncts =
    let counts : NoFeed (codes "# results " ++ decimal rows ++ codes " punctuations " ++ decimal puncts) =
    and_then (and_then (and_then (literal (codes "# results ") refl) (number rows)) (literal (codes " punctuations ") refl)) (number puncts) in
    record { words = codes "# results " ++ decimal rows ++ codes " punctuations " ++ decimal puncts; is = refl; note = refl; whole = counts.it }

peak_note : (name : List ℕ) (peak : ℕ) → HasNo 10 name → IsNoteLine (peak_line name peak)
peak_note name peak none =
    let named : NoFeed name = record { it = none } in
    let all : NoFeed (codes "# peak " ++ name ++ codes " " ++ decimal peak) = and_then (and_then (and_then (literal (codes "# peak ") refl) named) (literal (codes " ") refl)) (number peak) in
    record { words = codes "# peak " ++ name ++ codes " " ++ decimal peak; is = refl; note = refl; whole = all.it }

-- with the name of a node
pub peak_is_note : (nodes given : List PlanNode) (join peak : ℕ) (name : List ℕ) → given ≡ nodes → name ≡ node_name given join → HasShortNames nodes → IsNoteLine (peak_line name peak)
peak_is_note nodes given join peak name same named plain =
    peak_note name peak (subst (HasNo 10) (sym (named ∙ ap (λ (ns : List PlanNode). node_name ns join) same)) (name_no_feed (node_name nodes join) (name_plain nodes join plain)))

-- the note of a row that a sweep removed
input_no_feed : (nodes : List PlanNode) (join input : ℕ) → HasShortNames nodes → HasNo 10 (input_name nodes join input)
input_no_feed nodes join input plain = go (slice_get (inputs_of (node_at nodes join)) input)
  where
    go : (number : Option ℕ) → HasNo 10 (name_of nodes number)
    go None = tt
    go (Some number) = name_no_feed (node_name nodes number) (name_plain nodes number plain)

pub purge_note : (nodes : List PlanNode) (join input : ℕ) (row : List Value) → HasShortNames nodes → IsNoteLine (purge_line nodes join input row)
purge_note nodes join input row plain =
    let joined : NoFeed (node_name nodes join) = record { it = name_no_feed (node_name nodes join) (name_plain nodes join plain) } in
    let from : NoFeed (input_name nodes join input) = record { it = input_no_feed nodes join input plain } in
    let removed : NoFeed (row_line row) = record { it = row_no_feed row } in
    let all : NoFeed (codes "# purge " ++ node_name nodes join ++ codes " " ++ input_name nodes join input ++ codes " " ++ row_line row) =
    and_then (and_then (and_then (and_then (and_then (literal (codes "# purge ") refl) joined) (literal (codes " ") refl)) from) (literal (codes " ") refl)) removed in
    record { words = codes "# purge " ++ node_name nodes join ++ codes " " ++ input_name nodes join input ++ codes " " ++ row_line row; is = refl; note = refl; whole = all.it }

streams_note : (streams : List PlanNode) (files : List (List ℕ)) → are_short streams ≡ true → AreNotes (streams_report streams files)
streams_note [] files plain = tt
streams_note (stream ∷ streams) [] plain = tt
streams_note (stream ∷ streams) (bytes ∷ files) plain =
    let p = and_parts (is_short stream.name) (are_short streams) plain in
    let none = name_no_feed stream.name p.0 in
    let tally = tally_of (fates_of stream.schema bytes) in
    notes-append (stream_lines stream.name tally) _ (stream_notes stream.name tally none) (streams_note streams files p.1)

pub tallies_note : (streams : List PlanNode) (tallies : List Tally) → are_short streams ≡ true → AreNotes (tally_lines streams tallies)
tallies_note [] tallies plain = tt
tallies_note (stream ∷ streams) [] plain = tt
tallies_note (stream ∷ streams) (tally ∷ tallies) plain =
    let p = and_parts (is_short stream.name) (are_short streams) plain in
    notes-append (stream_lines stream.name tally) _ (stream_notes stream.name tally (name_no_feed stream.name p.0)) (tallies_note streams tallies p.1)

pub peaks_note : (plan : RunPlan) (history : List Entry) (joins : List ℕ) → HasShortNames plan.nodes → AreNotes (map (peak_report plan history) joins)
peaks_note plan history [] plain = tt
peaks_note plan history (join ∷ joins) plain = (
  peak_note (node_name plan.nodes join) (peak_of (nodes_of plan) history join) (name_no_feed (node_name plan.nodes join) (name_plain plan.nodes join plain)),
  peaks_note plan history joins plain,
)

-- the lines that a report has for a form, and that of its check
pub total_note : (total : ℤ) → IsNoteLine (total_line total)
total_note total =
    let all : NoFeed (codes "# total " ++ signed_decimal total) = and_then (literal (codes "# total ") refl) (signed total) in
    record { words = codes "# total " ++ signed_decimal total; is = refl; note = refl; whole = all.it }

form_note : (form : Form) (total : ℤ) (plan : RunPlan) (history : List Entry) → HasShortNames plan.nodes → AreNotes (form_report form total plan history)
form_note AsTheyCome total plan history plain = peaks_note plan history (joins_of plan.nodes) plain
form_note Sorted total plan history plain = tt
form_note Summed total plan history plain = notes-append (peaks_report plan history) (total_line total ∷ []) (peaks_note plan history (joins_of plan.nodes) plain) (total_note total, tt)

check_note : (rows : ℕ) → IsNoteLine (check_line rows)
check_note rows =
    let all : NoFeed (codes "# check " ++ decimal rows) = and_then (literal (codes "# check ") refl) (number rows) in
    record { words = codes "# check " ++ decimal rows; is = refl; note = refl; whole = all.it }

pub check_in_note : (check : Bool) (nodes : List PlanNode) (lists : List (List (List Value))) → AreNotes (check_in check nodes lists)
check_in_note true nodes lists = (check_note (length (answer_of nodes lists)), tt)
check_in_note false nodes lists = tt

pub report_notes : (job : Job) (files : List (List ℕ)) (outputs : List Element) → HasShortNames job.nodes → AreNotes (report_of job files outputs)
report_notes job files outputs plain =
    let streams = streams_report (streams_in job.nodes) files in
    let results = results_line outputs ∷ [] in
    let total : ℤ = total_in job.form outputs in
    notes-append (streams ++ results ++ form_report job.form total (plan_run job) (history_of job files)) _
    (notes-append (streams ++ results) _ (notes-append streams results (streams_note (streams_in job.nodes) files (streams_plain job.nodes plain)) (results_note (counted_to (length (rows_of outputs))) (counted_to (length (puncts_of outputs))), tt))
    (form_note job.form total (plan_run job) (history_of job files) plain))
    (check_in_note job.check job.nodes (accepted_rows job files))
