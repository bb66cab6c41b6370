-- What was taken before a refusal.
use Rattle.std.proofs.Common.{◌≡◌, ◌≤◌, ◌++◌, ℕ, List, length, take, drop, Result, Ok, Err, ap, ◌∙◌, subst, IsErrAnd}
use Rattle.std.specs.Prelude.{OnErr}
use Rattle.std.proofs.lemmas.List.{take_all, take-append-drop}
use Rattle.pj_pattern.specs.declared.element.Element.{Element}
use Rattle.pj_events.specs.declared.events.Out.{Out}
use Rattle.pj_events.specs.Outcomes.{elements_out}
use Rattle.pj_io.specs.States.{SinkState}
use Rattle.pj_report.specs.declared.kept.KeptLines.{KeptLines}
use Rattle.pj_report.specs.declared.results.Counts.{Counts}
use Rattle.pj_report.specs.declared.writer.Form.TheVariants.{Sorted}
use Rattle.pj_report.specs.declared.writer.ResultWriter.{ResultWriter}
use Rattle.pj_report.specs.Firsts.{CountsMore, KeepsMore, OfFirst}
use Rattle.pj_report.specs.Forms.{TakesMore}
use Rattle.pj_report.specs.Results.{counts_of}
use Rattle.pj_report.specs.Sorted.{punct_lines, row_lines}
use Rattle.pj_report.specs.Written.{Cut, WritesBy}
use Rattle.pj_report.proofs.Forms.{kept_taken}
use Rattle.pj_report.proofs.LinesWritten.{none_written}

-- so it is with those before the one that was refused
pub first_so : {T E : Type 0} (result : Result T E) (outs : List Out) (i : ℕ) (So : List Element → Type 0) → So (elements_out (take i outs)) → OnErr result (OfFirst outs So)
first_so (Ok x) outs i So so = tt
first_so (Err e) outs i So so = record { first = take i outs; others = drop i outs; all = take-append-drop i outs; so = so }

-- a result hands on an error
pub first_still : {T E : Type 0} (result : Result T E) (outs : List Out) (Was So : List Element → Type 0) → ((es : List Element) → Was es → So es) → OfFirst outs Was → OnErr result (OfFirst outs So)
first_still (Ok x) outs Was So so was = tt
first_still (Err e) outs Was So so was = record { first = was.first; others = was.others; all = was.all; so = so (elements_out was.first) was.so }

-- what was refused is not kept
pub kept_still : (old mid new : KeptLines) (es : List Element) → new ≡ mid → mid.rows ≡ old.rows ++ row_lines es → mid.puncts ≡ old.puncts ++ punct_lines es → KeepsMore old new es
kept_still old mid new es same rows puncts = (ap (λ (k : KeptLines). k.rows) same ∙ rows, ap (λ (k : KeptLines). k.puncts) same ∙ puncts)

-- a writer of sorted results takes what it keeps
pub kept_first : (old : ResultWriter) (counts : Counts) (kept : KeptLines) (es : List Element) → old.form ≡ Sorted → (KeepsMore old.kept kept es × CountsMore old.counts counts es)
    → TakesMore old (record { form = old.form; counts = counts; kept = kept; total = old.total }) es
kept_first old counts kept es sorted more = λ form before is. kept_taken old counts kept before es form sorted more.0.0 more.0.1 (more.1 before) is

-- all were counted
pub all_counted : (outs : List Out) (i : ℕ) (before : List Element) (counts : Counts) → length outs ≤ i → counts ≡ counts_of (before ++ elements_out (take i outs)) → counts ≡ counts_of (before ++ elements_out outs)
all_counted outs i before counts end is = subst (λ (os : List Out). counts ≡ counts_of (before ++ elements_out os)) (take_all i outs end) is

-- a stop before the first line
pub nothing_written : {T E : Type 0} (cut : E → Cut) (result : Result T E) (stop : E) (lines : List (List ℕ)) (sink : SinkState) → IsErrAnd result (λ x. x ≡ stop) → WritesBy cut lines sink sink result
nothing_written cut (Ok x) stop lines sink is = absurd is
nothing_written cut (Err e) stop lines sink is = none_written (cut e) lines sink.written
