-- What holds of the outputs of a plan's run, on one thread or by a script.
use Rattle.std.proofs.Common.{◌≡◌, ◌<◌, ℕ, zero, suc, true, List, [], ◌∷◌, ◌++◌, map, length, get_or, Option, Some, None, refl, ap, sym, ◌∙◌, subst, arith, zero-add}
use Rattle.std.proofs.lemmas.List.{get_or_default, length-map, same_lists}
use Rattle.pj_value.specs.Bags.{SameBag}
use Rattle.pj_shape.specs.declared.columns.Column.{Column}
use Rattle.pj_pattern.specs.declared.element.Element.{Element}
use Rattle.pj_pattern.specs.declared.element.Element.TheVariants.{Punct}
use Rattle.pj_pattern.specs.Elements.{IsLawful, puncts_of, rows_of}
use Rattle.pj_element.specs.Runs.{closing}
use Rattle.pj_run.specs.Jobs.{Job}
use Rattle.pj_plan.specs.declared.node.PlanNode.{PlanNode}
use Rattle.pj_events.specs.Join.{upto_from}
use Rattle.pj_events.specs.Plan.{Node}
use Rattle.pj_events.specs.History.{IsLegal, streams_of}
use Rattle.pj_laws.specs.HistoryLaws.{IsWholeRun, closed_list, closed_lists}
use Rattle.pj_events.specs.Limits.{ReachesLimit}
use Rattle.pj_events.specs.Punctuations.{puncts_answer}
use Rattle.pj_laws.specs.Reaching.{IsCounted, elements_to as coming_to}
use Rattle.pj_laws.proofs.HistoryAnswers.{hands_out-lawfully}
use Rattle.pj_laws.proofs.OneThreadAnswer.{swept-whole}
use Rattle.pj_laws.proofs.Reaching.{limits-tell}
use Rattle.pj_laws.proofs.SweptRun.{swept-complete}
use Rattle.pj_join_laws.proofs.Upto.{get_or-upto, length-upto}
use Rattle.pj_plan.specs.Nodes.{stream_columns, streams_in}
use Rattle.pj_script.specs.declared.step.ScriptStep.{ScriptStep}
use Rattle.pj_script.specs.Playing.{AllFit}
use Rattle.pj_script_laws.specs.Laws.{HandsOutAnswer, IsWholeOf, MayPlay}
use Rattle.pj_script_laws.proofs.Whole.{answer-of, scripted-is-complete, scripted-is-legal, scripted-limits-tell}
use Rattle.pj_run.specs.Runs.{elements_of, history_by, history_of, outputs_of, plan_run, refused_by, run_nodes, with_closings, GoesBeyond, IsAnswer, IsEnabled, ArePunctuations}
use Rattle.pj_core_laws.proofs.PlainAnswers.{answers-are-plain, counts-are-plain, punctuations-are-plain, counted-are-plain}
use Rattle.pj_feed.specs.Feeds.{accepted_of}
use Rattle.pj_run.proofs.Accepting.{accepted_lists, count-streams, schema-is}
use Rattle.pj_run.proofs.Planned.{FitsBy, IsPlanned}

-- ---- the history

module _ (job : Job) (files : List (List ℕ)) (p : IsPlanned job) where
  abbrev nodes : List Node
  nodes = run_nodes job

  abbrev accepted : List (List Element)
  accepted = accepted_of (streams_in job.nodes) files

  on-one-thread : IsWholeRun true nodes accepted
  on-one-thread = swept-whole nodes p.well_made p.certified accepted (accepted_lists job files)

  may : (steps : List (ℕ × ScriptStep)) → AllFit nodes steps → MayPlay nodes accepted steps
  may steps fit = record { accepted = accepted_lists job files; fit = fit }

  legal-by : (script : Option (List (ℕ × ScriptStep))) → FitsBy script nodes → IsLegal nodes (history_by script nodes accepted)
  legal-by None fit = on-one-thread.legal
  legal-by (Some steps) fit = (scripted-is-legal (plan_run job) p.sound p.certified accepted steps (may steps fit)).legal

  whole-by : (script : Option (List (ℕ × ScriptStep))) → FitsBy script nodes → refused_by script nodes accepted ≡ None → IsWholeOf nodes accepted (history_by script nodes accepted)
  whole-by None fit enabled = record { complete = swept-complete nodes p.well_made p.some p.certified accepted (accepted_lists job files); arrived = on-one-thread.elements }
  whole-by (Some steps) fit enabled = scripted-is-complete (plan_run job) p.sound p.certified accepted steps (may steps fit) enabled

  -- a step that brings the first element beyond the limit does so at a join or a group, to which more elements come in all
  tells-by : (script : Option (List (ℕ × ScriptStep))) → FitsBy script nodes → (node : ℕ) → ReachesLimit job.limit nodes (history_by script nodes accepted) node
      → IsCounted nodes node × (job.limit < coming_to nodes (map rows_of accepted) (map puncts_of (closed_lists nodes accepted)) node)
  tells-by None fit node r = limits-tell nodes p.well_made p.tree p.some p.certified accepted (accepted_lists job files) job.limit node r
  tells-by (Some steps) fit node r = scripted-limits-tell (plan_run job) p.sound p.certified accepted steps (may steps fit) job.limit node r

  -- the history is legal
  pub legal_run : IsLegal nodes (history_of job files)
  legal_run = legal-by job.script p.fit

  -- and whole, where every step of its script is enabled
  pub whole_run : IsEnabled job files → IsWholeOf nodes accepted (history_of job files)
  whole_run enabled = whole-by job.script p.fit enabled

pub outputs_lawful : (job : Job) (files : List (List ℕ)) → IsPlanned job → IsLawful (outputs_of job files)
outputs_lawful job files p = hands_out-lawfully (run_nodes job) p.well_made p.some job.trace (history_of job files) (legal_run job files p)

handed-out : (job : Job) (files : List (List ℕ)) → IsPlanned job → IsEnabled job files → HandsOutAnswer job.trace (run_nodes job) (accepted_of (streams_in job.nodes) files) (history_of job files)
handed-out job files p enabled =
    answer-of (plan_run job) p.sound p.certified (accepted_of (streams_in job.nodes) files) (accepted_lists job files) (history_of job files) (legal_run job files p) (whole_run job files p enabled) job.trace

pub outputs_answer : (job : Job) (files : List (List ℕ)) → IsPlanned job → IsEnabled job files → (report : List (List ℕ)) → IsAnswer job files (outputs_of job files) report
outputs_answer job files p enabled report =
    subst (SameBag (rows_of (outputs_of job files))) (answers-are-plain (plan_run job) (map rows_of (accepted_of (streams_in job.nodes) files))).answer (handed-out job files p enabled).rows

-- ---- punctuations

closings_long : (streams : List PlanNode) (lists : List (List Element)) → length (with_closings streams lists) ≡ length streams
closings_long [] lists = refl
closings_long (stream ∷ streams) [] = ap suc (closings_long streams [])
closings_long (stream ∷ streams) (es ∷ lists) = ap suc (closings_long streams lists)

closing_at : (streams : List PlanNode) (lists : List (List Element)) (k : ℕ) → k < length streams → get_or (with_closings streams lists) k [] ≡ get_or lists k [] ++ Punct (closing (stream_columns streams k)) ∷ []
closing_at [] lists k lt = absurd (omega (arith, lt))
closing_at (stream ∷ streams) [] zero lt = refl
closing_at (stream ∷ streams) [] (suc k) lt = closing_at streams [] k (omega (arith, lt))
closing_at (stream ∷ streams) (es ∷ lists) zero lt = refl
closing_at (stream ∷ streams) (es ∷ lists) (suc k) lt = closing_at streams lists k (omega (arith, lt))

-- the accepted elements with the closings are what the laws say of them
pub closed_so : (job : Job) (files : List (List ℕ)) → closed_lists (run_nodes job) (accepted_of (streams_in job.nodes) files) ≡ elements_of job files
closed_so job files = same_lists (closed_lists nodes lists) (elements_of job files) (many ∙ sym (closings_long streams lists)) at
  where
    nodes : List Node
    nodes = run_nodes job

    streams : List PlanNode
    streams = streams_in job.nodes

    lists : List (List Element)
    lists = accepted_of streams files

    n : ℕ
    n = length (streams_of nodes)

    many : length (closed_lists nodes lists) ≡ length streams
    many = length-map (upto_from 0 n) (closed_list nodes lists) ∙ (length-upto 0 n ∙ count-streams job)

    at : (k : ℕ) (d : List Element) → k < length (closed_lists nodes lists) → get_or (closed_lists nodes lists) k d ≡ get_or (elements_of job files) k d
    at k d lt =
        let all = many in
        let count = count-streams job in
        let there : k < length streams = omega (arith, lt, all) in
        let long = closings_long streams lists in
        get_or-upto (closed_list nodes lists) 0 n k d (omega (arith, there, count))
        ∙ (ap (closed_list nodes lists) (zero-add k)
        ∙ (ap (λ (ks : List Column). get_or lists k [] ++ Punct (closing ks) ∷ []) (schema-is job k (length nodes) there)
        ∙ (sym (closing_at streams lists k there) ∙ get_or_default (elements_of job files) k [] d (omega (arith, there, long)))))

pub outputs_puncts : (job : Job) (files : List (List ℕ)) → IsPlanned job → IsEnabled job files → (report : List (List ℕ)) → ArePunctuations job files (outputs_of job files) report
outputs_puncts job files p enabled report =
    subst (SameBag (puncts_of (outputs_of job files)))
    (ap (λ (ls : List (List Element)). puncts_answer (run_nodes job) (map puncts_of ls)) (closed_so job files) ∙ (punctuations-are-plain (plan_run job) (map puncts_of (elements_of job files))).output)
    (handed-out job files p enabled).punctuations

-- ---- limits

pub goes_beyond : (job : Job) (files : List (List ℕ)) → IsPlanned job → (node : ℕ) → ReachesLimit job.limit (run_nodes job) (history_of job files) node → GoesBeyond job files node
goes_beyond job files p node r =
    let lists : List (List Element) = accepted_of (streams_in job.nodes) files in
    let t = tells-by job files p job.script p.fit node r in
    record {
      reaches = r;
      counted = sym (counted-are-plain (plan_run job) node) ∙ t.0;
      many = subst (λ (n : ℕ). job.limit < n)
          (ap (λ (ls : List (List Element)). coming_to (run_nodes job) (map rows_of lists) (map puncts_of ls) node) (closed_so job files)
          ∙ counts-are-plain (plan_run job) (map rows_of lists) (map puncts_of (elements_of job files)) node)
          t.1;
    }
