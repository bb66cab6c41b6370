use Rattle.std.proofs.Common.{◌++◌, ap, List, ℕ, ◌∙◌}
use Rattle.std.specs.List.{concat}
use Rattle.pj_judge.specs.Checks.{check_lines}
use Rattle.pj_alone.proofs.VerdictLaws.{verdict_left}
use Rattle.pj_alone.proofs.verdict.write_verdict.Goals as goal

pub returns-in-Ok-clause-verdict : goal.returns-in-Ok-clause-verdict
returns-in-Ok-clause-verdict g c =
    let lines = check_lines c.args.print c.args.plan.now in
    let w = c.write_text-written.ensures in
    rw c.verdict_status.ensures
    (verdict_left c.in-Ok.found c.write_text-written.result c.as_slice.result.now c.args.print c.args.plan.now (g.K.Sink.state c.args.out.now) (g.K.Sink.state c.write_text-written.new.out) c.in-Ok.ensures.answer
    (c.as_slice.ensures ∙ (c.in-Ok.ensures.text ∙ ap (λ (xs : List ℕ). xs ++ concat lines) c.new-text.ensures)) w.text w.all w.fault)
