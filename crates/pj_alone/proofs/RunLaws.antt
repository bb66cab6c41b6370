-- What a run leaves written.
use Rattle.pj_run.specs.Jobs.{Job}
use Rattle.std.proofs.Common.{◌≡◌, ◌≤◌, ℕ, suc, true, inl, inr, List, [], ◌∷◌, ◌++◌, length, get_or, Some, IsTrue, refl, ap, ◌∙◌, subst, append-nil, arith}
use Rattle.std.specs.Prelude.{nat_le}
use Rattle.std.specs.List.{list_all}
use Rattle.std.proofs.lemmas.Bool.{and_parts}
use Rattle.std.proofs.lemmas.Bool.Decides.{nat_tests}
use Rattle.pj_io.specs.Causes.{Rose}
use Rattle.pj_io.specs.States.{SinkState}
use Rattle.pj_pattern.specs.declared.element.Element.{Element}
use Rattle.pj_events.specs.declared.events.Out.{Out}
use Rattle.pj_events.specs.Outcomes.{elements_out}
use Rattle.pj_report.specs.Forms.{form_lines}
use Rattle.pj_prepare.specs.Calls.{Call, job_of, stream_files}
use Rattle.pj_alone.specs.Endings.{stream_name}
use Rattle.pj_plan.specs.declared.node.PlanNode.{PlanNode}
use Rattle.pj_plan.specs.Canonical.{node_name}
use Rattle.pj_plan.specs.Names.{is_name_byte}
use Rattle.pj_plan.specs.Nodes.{streams_of, streams_in}
use Rattle.pj_feed.proofs.StreamNodes.{count_numbers, name-at}
use Rattle.pj_report.proofs.NodeNames.{past_names}
use Rattle.pj_run.specs.PlanNames.{is_short}
use Rattle.pj_run.specs.Runs.{outs_of, outputs_of, report_of, run_lines, IsEnabled}
use Rattle.pj_report.specs.Written.{flat, Delivered, holding}

-- ---- a run that is done

-- all lines were written, and this holds of the outputs
pub ran : (Holds : Job → List (List ℕ) → List Element → List (List ℕ) → Type 0) (job : Job) (call : Call) (ready : List (List ℕ)) (old new : SinkState)
    → job_of call ≡ Some job → IsEnabled job ready → ready ≡ stream_files call → new.written ≡ old.written ++ flat (run_lines job ready) → Holds job ready (outputs_of job ready) (report_of job ready (outputs_of job ready))
    → (job : Job) × (outs : List Out) × (report : List (List ℕ)) × (job_of call ≡ Some job)
    × IsEnabled job (stream_files call) × (outs ≡ outs_of job (stream_files call)) × (new.written ≡ old.written ++ flat (form_lines job.form job.nodes outs ++ report)) × Holds job (stream_files call) (elements_out outs) report
ran Holds job call ready old new read enabled same written holds =
    subst (λ (fs : List (List ℕ)). (job : Job) × (outs : List Out) × (report : List (List ℕ)) × (job_of call ≡ Some job)
    × IsEnabled job fs × (outs ≡ outs_of job fs) × (new.written ≡ old.written ++ flat (form_lines job.form job.nodes outs ++ report)) × Holds job fs (elements_out outs) report) same
    (job, outs_of job ready, report_of job ready (outputs_of job ready), read, enabled, refl, written, holds)

-- ---- what was delivered

pub nothing_left : (front others : List ℕ) → front ++ others ≡ [] → front ≡ []
nothing_left [] others e = refl
nothing_left (f ∷ front) others e = absurd (cc)

-- nothing more was written
pub same_after : (old new : SinkState) → IsTrue new.told → Delivered [] old new → new.written ≡ old.written
same_after old new told delivered = elim (delivered told) [
  | inl e ↦ e ∙ append-nil old.written
  | inr cut ↦ cut.1.written ∙ (ap (λ (xs : List ℕ). old.written ++ xs) (nothing_left cut.1.front cut.1.others cut.1.all) ∙ append-nil old.written)
]

-- the faults that rose before are there still
pub later_rose : (first old new : SinkState) → Rose first.faults old.faults → old.faults ≤ new.faults → Rose first.faults new.faults
later_rose first old new rose le = omega (arith, rose, le)

-- the faults rose since before
pub earlier_rose : (line : List ℕ) (first old new : SinkState) → first.faults ≤ old.faults → Delivered line old new → Delivered line (holding first old.written) new
earlier_rose line first old new le delivered told = elim (delivered told) [
  | inl e ↦ inl e
  | inr cut ↦ let rose = cut.0 in inr (omega (arith, rose, le), cut.1)
]

-- ---- names

pub name_short : (xs : List ℕ) → is_short xs ≡ true → length xs ≤ 32
name_short xs e = let p = (and_parts (nat_le (length xs) 32) (list_all is_name_byte xs) e).0 in grind (arith, nat_tests)

-- the name of a node is that of the stream that it is
pub named_stream : (nodes : List PlanNode) (s number : ℕ) → suc s ≤ length (streams_of nodes) → number ≡ get_or (streams_of nodes) s number → node_name nodes number ≡ stream_name (streams_in nodes) s
named_stream nodes s number within is =
    let count = count_numbers nodes in
    ap (node_name nodes) is ∙ name-at nodes s number (omega (arith, within, count))

-- there is no stream of this number
pub unnamed_stream : (nodes : List PlanNode) (s : ℕ) → length (streams_of nodes) ≤ s → [] ≡ stream_name (streams_in nodes) s
unnamed_stream nodes s past = let e = count_numbers nodes in past_names (streams_in nodes) s (omega (arith, past, e))
