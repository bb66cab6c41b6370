use Rattle.pj_run.specs.PlanNames.{HasShortNames}
use Rattle.pj_run.specs.Whole.{WroteLines}
use Rattle.pj_run.proofs.Notes.{check_in_note, results_note}
use Rattle.pj_run.proofs.WholeLaws.{leaves_lines, leaves_then, lines_wrote, note_is_line, notes_are_lines, stop_wrote, tallies_are_lines, wrote_then}
use Rattle.pj_run.proofs.report.write_report.Given.{Over}
use Rattle.pj_run.proofs.report.write_report.Goals.{After-write_streams, In_ok-write_form_report}
use Rattle.std.proofs.lemmas.Int.{ints}
use Rattle.std.specs.Int.{w64}
use Rattle.std.specs.Prelude.{ℤ}
use Rattle.pj_plan.specs.declared.node.PlanNode.{PlanNode}
use Rattle.pj_plan.specs.Nodes.{streams_in}
use Rattle.std.proofs.Common.{List, [], ◌∷◌, ◌++◌, ◌≡◌, ◌∙◌, ap, sym, append_assoc, append-nil, subst, arith, to_z, of_z, IsTrue}
use Rattle.pj_report.specs.declared.results.Counts.{Counts}
use Rattle.pj_report.specs.declared.writer.Form.{Form}
use Rattle.pj_report.specs.Report.{results_text}
use Rattle.pj_report.specs.Written.{flat, write_cut, Leaves}
use Rattle.pj_report.proofs.LinesWritten.{stopped_first, stopped_then, written_then}
use Rattle.pj_run.specs.Outcome.{tally_lines, report_lines}
use Rattle.pj_run.specs.Runs.{check_in, form_report}
use Rattle.pj_run.proofs.Tallies.{four_parts}
use Rattle.pj_run.proofs.report.write_report.Goals as goal

pub returns-in_err-write_streams-clause-lines : goal.returns-in_err-write_streams-clause-lines
returns-in_err-write_streams-clause-lines g c = λ told history stands.
    let plan = c.args.core.now.plan in
    let tallies = c.args.tallies.now in
    let gathered = c.args.gathered.now in
    let xs = tally_lines (streams_in c.plan.result.now.nodes) tallies in
    let ys = results_text gathered.results.counts.rows gathered.results.counts.puncts ∷ [] in
    let zs = form_report gathered.results.form gathered.results.total plan history in
    let ws = check_in gathered.accepted.asked plan.nodes gathered.accepted.lists.items in
    stopped_first write_cut c.from_residual.result c.in_err-write_streams.field-0.0 xs (ys ++ (zs ++ ws)) (report_lines plan tallies gathered history) (g.K.Sink.state c.args.out.now) (g.K.Sink.state c.write_streams.new.out)
    (c.in_err-write_streams.ensures.lines told) (four_parts xs ys zs ws ∙ ap (λ (ns : List PlanNode). tally_lines (streams_in ns) tallies ++ ys ++ zs ++ ws) c.plan.ensures) c.from_residual.ensures.1

pub returns-in_err-write_results-clause-lines : goal.returns-in_err-write_results-clause-lines
returns-in_err-write_results-clause-lines g c = λ told history stands.
    let plan = c.args.core.now.plan in
    let tallies = c.args.tallies.now in
    let gathered = c.args.gathered.now in
    let xs = tally_lines (streams_in c.plan.result.now.nodes) tallies in
    let ys = results_text gathered.results.counts.rows gathered.results.counts.puncts ∷ [] in
    let zs = form_report gathered.results.form gathered.results.total plan history in
    let ws = check_in gathered.accepted.asked plan.nodes gathered.accepted.lists.items in
    let first = g.K.Sink.state c.write_streams.new.out in
    let second = g.K.Sink.state c.write_results.new.out in
    stopped_then write_cut c.from_residual-in_err-write_results.result c.in_err-write_results.field-0.0 xs ys (zs ++ ws) (report_lines plan tallies gathered history) (g.K.Sink.state c.args.out.now) first second
    (c.in_ok-write_streams.ensures.lines (c.in_err-write_results.ensures.told told))
    (subst (λ (counts : Counts). Leaves (write_cut c.in_err-write_results.field-0.0) (results_text counts.rows counts.puncts ∷ []) first.written second.written) c.counts-counts.ensures (c.in_err-write_results.ensures.lines told))
    (sym (append_assoc (xs ++ ys) zs ws) ∙ ap (λ (ns : List PlanNode). tally_lines (streams_in ns) tallies ++ ys ++ zs ++ ws) c.plan.ensures) c.from_residual-in_err-write_results.ensures.1

pub returns-in_err-write_form_report-clause-lines : goal.returns-in_err-write_form_report-clause-lines
returns-in_err-write_form_report-clause-lines g c = λ told history stands.
    let plan = c.args.core.now.plan in
    let tallies = c.args.tallies.now in
    let gathered = c.args.gathered.now in
    let xs = tally_lines (streams_in c.plan.result.now.nodes) tallies in
    let ys = results_text gathered.results.counts.rows gathered.results.counts.puncts ∷ [] in
    let zs = form_report gathered.results.form gathered.results.total plan history in
    let ws = check_in gathered.accepted.asked plan.nodes gathered.accepted.lists.items in
    let old = g.K.Sink.state c.args.out.now in
    let first = g.K.Sink.state c.write_streams.new.out in
    let second = g.K.Sink.state c.write_results.new.out in
    let third = g.K.Sink.state c.write_form_report.new.out in
    let same : to_z w64 (of_z w64 c.total-total.result) ≡ c.total-total.result = omega (arith, ints) in
    let told_second = c.in_err-write_form_report.ensures.told told in
    stopped_then write_cut c.from_residual-in_err-write_form_report.result c.in_err-write_form_report.field-0.0 (xs ++ ys) zs ws (report_lines plan tallies gathered history) old second third
    (written_then xs ys old.written first.written second.written (c.in_ok-write_streams.ensures.lines (c.in_ok-write_results.ensures.told told_second))
    (subst (λ (counts : Counts). second.written ≡ first.written ++ flat (results_text counts.rows counts.puncts ∷ [])) c.counts-counts.ensures (c.in_ok-write_results.ensures.lines told_second)))
    (subst (λ (form : Form). Leaves (write_cut c.in_err-write_form_report.field-0.0) (form_report form gathered.results.total plan history) second.written third.written) c.form.ensures
    (subst (λ (total : ℤ). Leaves (write_cut c.in_err-write_form_report.field-0.0) (form_report c.form.result total plan history) second.written third.written) (same ∙ c.total-total.ensures) (c.in_err-write_form_report.ensures.lines told history stands)))
    (ap (λ (ns : List PlanNode). tally_lines (streams_in ns) tallies ++ ys ++ zs ++ ws) c.plan.ensures) c.from_residual-in_err-write_form_report.ensures.1

pub returns-in_err-write_answer-clause-lines : goal.returns-in_err-write_answer-clause-lines
returns-in_err-write_answer-clause-lines g c = λ told history stands.
    let plan = c.args.core.now.plan in
    let tallies = c.args.tallies.now in
    let gathered = c.args.gathered.now in
    let xs = tally_lines (streams_in c.plan.result.now.nodes) tallies in
    let ys = results_text gathered.results.counts.rows gathered.results.counts.puncts ∷ [] in
    let zs = form_report gathered.results.form gathered.results.total plan history in
    let ws = check_in gathered.accepted.asked plan.nodes gathered.accepted.lists.items in
    let old = g.K.Sink.state c.args.out.now in
    let first = g.K.Sink.state c.write_streams.new.out in
    let second = g.K.Sink.state c.write_results.new.out in
    let third = g.K.Sink.state c.write_form_report.new.out in
    let last = g.K.Sink.state c.write_answer.new.out in
    let same : to_z w64 (of_z w64 c.total-total.result) ≡ c.total-total.result = omega (arith, ints) in
    let told_third = c.in_err-write_answer.ensures.told told in
    let told_second = c.in_ok-write_form_report.ensures.told told_third in
    stopped_then write_cut c.from_residual-in_err-write_answer.result c.in_err-write_answer.field-0.0 (xs ++ ys ++ zs) ws [] (report_lines plan tallies gathered history) old third last
    (written_then (xs ++ ys) zs old.written second.written third.written
    (written_then xs ys old.written first.written second.written (c.in_ok-write_streams.ensures.lines (c.in_ok-write_results.ensures.told told_second))
    (subst (λ (counts : Counts). second.written ≡ first.written ++ flat (results_text counts.rows counts.puncts ∷ [])) c.counts-counts.ensures (c.in_ok-write_results.ensures.lines told_second)))
    (subst (λ (form : Form). third.written ≡ second.written ++ flat (form_report form gathered.results.total plan history)) c.form.ensures
    (subst (λ (total : ℤ). third.written ≡ second.written ++ flat (form_report c.form.result total plan history)) (same ∙ c.total-total.ensures) (c.in_ok-write_form_report.ensures.lines told_third history stands))))
    (subst (λ (ns : List PlanNode). Leaves (write_cut c.in_err-write_answer.field-0.0) (check_in gathered.accepted.asked ns gathered.accepted.lists.items) third.written last.written) c.plan-2.ensures (c.in_err-write_answer.ensures.lines told))
    (append-nil (xs ++ ys ++ zs ++ ws) ∙ ap (λ (ns : List PlanNode). tally_lines (streams_in ns) tallies ++ ys ++ zs ++ ws) c.plan.ensures) c.from_residual-in_err-write_answer.ensures.1

pub returns-clause-lines : goal.returns-clause-lines
returns-clause-lines g c = λ told history stands.
    let plan = c.args.core.now.plan in
    let tallies = c.args.tallies.now in
    let gathered = c.args.gathered.now in
    let xs = tally_lines (streams_in c.plan.result.now.nodes) tallies in
    let ys = results_text gathered.results.counts.rows gathered.results.counts.puncts ∷ [] in
    let zs = form_report gathered.results.form gathered.results.total plan history in
    let ws = check_in gathered.accepted.asked plan.nodes gathered.accepted.lists.items in
    let old = g.K.Sink.state c.args.out.now in
    let first = g.K.Sink.state c.write_streams.new.out in
    let second = g.K.Sink.state c.write_results.new.out in
    let third = g.K.Sink.state c.write_form_report.new.out in
    let last = g.K.Sink.state c.write_answer.new.out in
    let same : to_z w64 (of_z w64 c.total-total.result) ≡ c.total-total.result = omega (arith, ints) in
    let told_third = c.in_ok-write_answer.ensures.told told in
    let told_second = c.in_ok-write_form_report.ensures.told told_third in
    subst (λ (ns : List PlanNode). last.written ≡ old.written ++ flat (tally_lines (streams_in ns) tallies ++ ys ++ zs ++ ws)) c.plan.ensures
    (written_then (xs ++ ys ++ zs) ws old.written third.written last.written
    (written_then (xs ++ ys) zs old.written second.written third.written
    (written_then xs ys old.written first.written second.written (c.in_ok-write_streams.ensures.lines (c.in_ok-write_results.ensures.told told_second))
    (subst (λ (counts : Counts). second.written ≡ first.written ++ flat (results_text counts.rows counts.puncts ∷ [])) c.counts-counts.ensures (c.in_ok-write_results.ensures.lines told_second)))
    (subst (λ (form : Form). third.written ≡ second.written ++ flat (form_report form gathered.results.total plan history)) c.form.ensures
    (subst (λ (total : ℤ). third.written ≡ second.written ++ flat (form_report c.form.result total plan history)) (same ∙ c.total-total.ensures) (c.in_ok-write_form_report.ensures.lines told_third history stands))))
    (subst (λ (ns : List PlanNode). last.written ≡ third.written ++ flat (check_in gathered.accepted.asked ns gathered.accepted.lists.items)) c.plan-2.ensures (c.in_ok-write_answer.ensures.lines told)))

-- ---- whole lines

pub returns-in_err-write_streams-clause-whole : goal.returns-in_err-write_streams-clause-whole
returns-in_err-write_streams-clause-whole g c = λ plain told.
    let why = c.in_err-write_streams.field-0.0 in
    let old = g.K.Sink.state c.args.out.now in
    let first = g.K.Sink.state c.write_streams.new.out in
    stop_wrote write_cut c.from_residual.result why old first
    (leaves_lines (write_cut why) _ old.written first.written (tallies_are_lines c.args.core.now.plan.nodes c.plan.result.now.nodes c.args.tallies.now c.plan.ensures plain) (c.in_err-write_streams.ensures.lines told))
    c.from_residual.ensures.1

-- the lines of the streams were written
streams_wrote : (g : Over) (c : After-write_streams g) → HasShortNames c.args.core.now.plan.nodes → (g.K.Sink.state c.write_streams.new.out).written ≡ (g.K.Sink.state c.args.out.now).written ++ flat (tally_lines (streams_in c.plan.result.now.nodes) c.args.tallies.now)
    → WroteLines (g.K.Sink.state c.args.out.now).written (g.K.Sink.state c.write_streams.new.out).written
streams_wrote g c plain written = lines_wrote (tally_lines (streams_in c.plan.result.now.nodes) c.args.tallies.now) _ _ (tallies_are_lines c.args.core.now.plan.nodes c.plan.result.now.nodes c.args.tallies.now c.plan.ensures plain) written

pub returns-in_err-write_results-clause-whole : goal.returns-in_err-write_results-clause-whole
returns-in_err-write_results-clause-whole g c = λ plain told.
    let why = c.in_err-write_results.field-0.0 in
    let old = g.K.Sink.state c.args.out.now in
    let first = g.K.Sink.state c.write_streams.new.out in
    let second = g.K.Sink.state c.write_results.new.out in
    stop_wrote write_cut c.from_residual-in_err-write_results.result why old second
    (leaves_then (write_cut why) old.written first.written second.written
    (streams_wrote g (goal.at.returns-in_err-write_results-clause-whole g c).After-write_streams plain (c.in_ok-write_streams.ensures.lines (c.in_err-write_results.ensures.told told)))
    (leaves_lines (write_cut why) _ first.written second.written (note_is_line _ (results_note _ _)) (c.in_err-write_results.ensures.lines told)))
    c.from_residual-in_err-write_results.ensures.1

pub returns-in_err-write_form_report-clause-whole : goal.returns-in_err-write_form_report-clause-whole
returns-in_err-write_form_report-clause-whole g c = λ plain told.
    let why = c.in_err-write_form_report.field-0.0 in
    let old = g.K.Sink.state c.args.out.now in
    let first = g.K.Sink.state c.write_streams.new.out in
    let second = g.K.Sink.state c.write_results.new.out in
    let third = g.K.Sink.state c.write_form_report.new.out in
    let told_second = c.in_err-write_form_report.ensures.told told in
    stop_wrote write_cut c.from_residual-in_err-write_form_report.result why old third
    (leaves_then (write_cut why) old.written second.written third.written
    (wrote_then old.written first.written second.written
    (streams_wrote g (goal.at.returns-in_err-write_form_report-clause-whole g c).After-write_streams plain (c.in_ok-write_streams.ensures.lines (c.in_ok-write_results.ensures.told told_second)))
    (lines_wrote (results_text c.counts-counts.result.rows c.counts-counts.result.puncts ∷ []) first.written second.written (note_is_line _ (results_note c.counts-counts.result.rows c.counts-counts.result.puncts)) (c.in_ok-write_results.ensures.lines told_second)))
    (c.in_err-write_form_report.ensures.whole plain told))
    c.from_residual-in_err-write_form_report.ensures.1

-- the lines before the check were written
report_wrote : (g : Over) (c : In_ok-write_form_report g) → HasShortNames c.args.core.now.plan.nodes → IsTrue (g.K.Sink.state c.write_form_report.new.out).told → WroteLines (g.K.Sink.state c.args.out.now).written (g.K.Sink.state c.write_form_report.new.out).written
report_wrote g c plain told =
    let old = g.K.Sink.state c.args.out.now in
    let first = g.K.Sink.state c.write_streams.new.out in
    let second = g.K.Sink.state c.write_results.new.out in
    let third = g.K.Sink.state c.write_form_report.new.out in
    let told_second = c.in_ok-write_form_report.ensures.told told in
    wrote_then old.written second.written third.written
    (wrote_then old.written first.written second.written
    (lines_wrote (tally_lines (streams_in c.plan.result.now.nodes) c.args.tallies.now) old.written first.written (tallies_are_lines c.args.core.now.plan.nodes c.plan.result.now.nodes c.args.tallies.now c.plan.ensures plain) (c.in_ok-write_streams.ensures.lines (c.in_ok-write_results.ensures.told told_second)))
    (lines_wrote (results_text c.counts-counts.result.rows c.counts-counts.result.puncts ∷ []) first.written second.written (note_is_line _ (results_note c.counts-counts.result.rows c.counts-counts.result.puncts)) (c.in_ok-write_results.ensures.lines told_second)))
    (c.in_ok-write_form_report.ensures.whole plain told)

pub returns-in_err-write_answer-clause-whole : goal.returns-in_err-write_answer-clause-whole
returns-in_err-write_answer-clause-whole g c = λ plain told.
    let why = c.in_err-write_answer.field-0.0 in
    let old = g.K.Sink.state c.args.out.now in
    let third = g.K.Sink.state c.write_form_report.new.out in
    let last = g.K.Sink.state c.write_answer.new.out in
    stop_wrote write_cut c.from_residual-in_err-write_answer.result why old last
    (leaves_then (write_cut why) old.written third.written last.written
    (report_wrote g (goal.at.returns-in_err-write_answer-clause-whole g c).In_ok-write_form_report plain (c.in_err-write_answer.ensures.told told))
    (leaves_lines (write_cut why) _ third.written last.written (notes_are_lines _ (check_in_note c.args.gathered.now.accepted.asked c.plan-2.result.now.nodes c.args.gathered.now.accepted.lists.items)) (c.in_err-write_answer.ensures.lines told)))
    c.from_residual-in_err-write_answer.ensures.1

pub returns-clause-whole : goal.returns-clause-whole
returns-clause-whole g c = λ plain told.
    let old = g.K.Sink.state c.args.out.now in
    let third = g.K.Sink.state c.write_form_report.new.out in
    let last = g.K.Sink.state c.write_answer.new.out in
    wrote_then old.written third.written last.written
    (report_wrote g (goal.at.returns-clause-whole g c).In_ok-write_form_report plain (c.in_ok-write_answer.ensures.told told))
    (lines_wrote (check_in c.args.gathered.now.accepted.asked c.plan-2.result.now.nodes c.args.gathered.now.accepted.lists.items) third.written last.written (notes_are_lines _ (check_in_note c.args.gathered.now.accepted.asked c.plan-2.result.now.nodes c.args.gathered.now.accepted.lists.items)) (c.in_ok-write_answer.ensures.lines told))
