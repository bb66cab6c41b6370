-- What a whole history of a job hands out.
use Rattle.std.proofs.Common.{◌≡◌, ℕ, List, [], ◌∷◌, ◌++◌, length, map, refl, ap, sym, ◌∙◌, subst, arith}
use Rattle.pj_value.specs.Bags.{weigh, SameBag}
use Rattle.pj_pattern.specs.declared.element.Element.{Element}
use Rattle.pj_pattern.specs.Elements.{IsLawful, puncts_of, rows_of}
use Rattle.pj_events.specs.declared.events.Entry.{Entry}
use Rattle.pj_events.specs.History.{IsLegal}
use Rattle.pj_events.specs.Outcomes.{elements_out}
use Rattle.pj_events.specs.Punctuations.{puncts_answer}
use Rattle.pj_laws.specs.HistoryLaws.{AllAreCertified}
use Rattle.pj_laws.proofs.HistoryAnswers.{hands_out-lawfully}
use Rattle.pj_plan.specs.Nodes.{streams_in}
use Rattle.pj_plan.specs.Sound.{IsSoundPlan}
use Rattle.pj_core.proofs.Planned.{not-empty, planned}
use Rattle.pj_core_laws.proofs.PlainAnswers.{answers-are-plain, punctuations-are-plain}
use Rattle.pj_feed.specs.Feeds.{accepted_of}
use Rattle.pj_report.specs.declared.writer.Form.{Form}
use Rattle.pj_report.specs.declared.writer.Form.TheVariants.{Sorted}
use Rattle.pj_report.specs.Forms.{form_lines, total_in}
use Rattle.pj_report.specs.Report.{counted_to, results_line, results_text}
use Rattle.pj_report.proofs.Sorting.{form_by_bags}
use Rattle.pj_script_laws.specs.Laws.{HandsOutAnswer, IsWholeOf}
use Rattle.pj_script_laws.proofs.Whole.{answer-of}
use Rattle.pj_run.specs.Jobs.{Job}
use Rattle.pj_run.specs.Runs.{accepted_rows, check_in, elements_of, form_report, lines_by, outs_by, plan_run, run_nodes, streams_report, ArePunctuations, IsAnswer}
use Rattle.pj_run.proofs.Accepting.{accepted_lists}
use Rattle.pj_run.proofs.OutputLaws.{closed_so}
use Rattle.pj_whole_laws.specs.Whole.{OfWhole, SortedIsOne, WholeAnswers, WholeIsLawful, WholePunctuates}

module _ (job : Job) (sound : IsSoundPlan job.nodes) (certified : AllAreCertified (run_nodes job)) (files : List (List ℕ)) where
  abbrev accepted : List (List Element)
  accepted = accepted_of (streams_in job.nodes) files

  module _ (history : List Entry) (legal : IsLegal (run_nodes job) history) (whole : IsWholeOf (run_nodes job) accepted history) where
    abbrev outputs : List Element
    outputs = elements_out (outs_by job history)

    handed : HandsOutAnswer job.trace (run_nodes job) accepted history
    handed = answer-of (plan_run job) sound certified accepted (accepted_lists job files) history legal whole job.trace

    rows-are : (report : List (List ℕ)) → IsAnswer job files outputs report
    rows-are report = subst (SameBag (rows_of outputs)) (answers-are-plain (plan_run job) (map rows_of accepted)).answer handed.rows

    puncts-are : (report : List (List ℕ)) → ArePunctuations job files outputs report
    puncts-are report =
        subst (SameBag (puncts_of outputs))
        (ap (λ (ls : List (List Element)). puncts_answer (run_nodes job) (map puncts_of ls)) (closed_so job files) ∙ (punctuations-are-plain (plan_run job) (map puncts_of (elements_of job files))).output)
        handed.punctuations

pub answers : OfWhole WholeAnswers
answers job sound certified files history w = rows-are job sound certified files history w.legal w.whole

pub punctuates : OfWhole WholePunctuates
punctuates job sound certified files history w = puncts-are job sound certified files history w.legal w.whole

pub is-lawful : OfWhole WholeIsLawful
is-lawful job sound certified files history w = hands_out-lawfully (run_nodes job) (planned (plan_run job) sound) (not-empty (plan_run job) sound) job.trace history w.legal

-- ---- sorted lines

-- lists that are one bag with another are equally long
as-long : {A : Type 0} (xs ys zs : List A) → SameBag xs zs → SameBag ys zs → length xs ≡ length ys
as-long {A} xs ys zs one other = sym (ones xs) ∙ (one (λ (x : A). 1) ∙ (sym (other (λ (x : A). 1)) ∙ ones ys))
  where
    ones : (ws : List A) → weigh (λ (x : A). 1) ws ≡ length ws
    ones [] = refl
    ones (w ∷ ws) = let more = ones ws in omega (arith, more)

-- the lines of a form, where it sorts results
abbrev rest_of : Form → Job → List (List ℕ) → List Entry → List (List ℕ)
rest_of form job files history =
    form_lines form job.nodes (outs_by job history)
    ++ (streams_report (streams_in job.nodes) files ++ results_line (elements_out (outs_by job history)) ∷ []
    ++ form_report form (total_in form (elements_out (outs_by job history))) (plan_run job) history ++ check_in job.check job.nodes (accepted_rows job files))

-- where results are sorted, whole histories make the same lines, whatever the limit
pub sorted-lines : (job : Job) → IsSoundPlan job.nodes → AllAreCertified (run_nodes job) → (files : List (List ℕ)) → job.form ≡ Sorted
    → (history : List Entry) → IsLegal (run_nodes job) history → IsWholeOf (run_nodes job) (accepted_of (streams_in job.nodes) files) history
    → (other : List Entry) → IsLegal (run_nodes job) other → IsWholeOf (run_nodes job) (accepted_of (streams_in job.nodes) files) other → lines_by job files history ≡ lines_by job files other
sorted-lines job sound certified files form history legal whole other other-legal other-whole =
    let es : List Element = elements_out (outs_by job history) in
    let fs : List Element = elements_out (outs_by job other) in
    let rows = rows-are job sound certified files history legal whole [] in
    let other-rows = rows-are job sound certified files other other-legal other-whole [] in
    let puncts = puncts-are job sound certified files history legal whole [] in
    let other-puncts = puncts-are job sound certified files other other-legal other-whole [] in
    let same = form_by_bags es fs (λ f. rows f ∙ sym (other-rows f)) (λ f. puncts f ∙ sym (other-puncts f)) in
    let counts : results_line es ≡ results_line fs =
    ap (λ (n : ℕ). results_text (counted_to n) (counted_to (length (puncts_of es)))) (as-long (rows_of es) (rows_of fs) _ rows other-rows)
    ∙ ap (λ (n : ℕ). results_text (counted_to (length (rows_of fs))) (counted_to n)) (as-long (puncts_of es) (puncts_of fs) _ puncts other-puncts) in
    ap (λ (f : Form). rest_of f job files history) form
    ∙ (ap (λ (ls : List (List ℕ)). ls ++ (streams_report (streams_in job.nodes) files ++ results_line es ∷ [] ++ [] ++ check_in job.check job.nodes (accepted_rows job files))) same
    ∙ (ap (λ (line : List ℕ). form_lines Sorted job.nodes (outs_by job other) ++ (streams_report (streams_in job.nodes) files ++ line ∷ [] ++ [] ++ check_in job.check job.nodes (accepted_rows job files))) counts
    ∙ ap (λ (f : Form). rest_of f job files other) (sym form)))

pub sorted-is-one : OfWhole SortedIsOne
sorted-is-one job sound certified files history w form other v = sorted-lines job sound certified files form history w.legal w.whole other v.legal v.whole
