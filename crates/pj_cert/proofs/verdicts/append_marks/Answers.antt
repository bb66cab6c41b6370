use Rattle.std.proofs.Common.{ℕ, List, ◌++◌, ap, ◌∙◌, flat_map}
use Rattle.pj_cert.specs.Verdicts.{mark_text}
use Rattle.pj_cert.proofs.Appended.{marks_more}
use Rattle.pj_cert.proofs.verdicts.append_marks.Goals as goal

pub loop-column-preserved : goal.loop-column-preserved
loop-column-preserved c =
    marks_more c.loop-column.text c.append.new.self (c.args.text.now ++ flat_map mark_text c.args.scheme.now) c.args.scheme.now c.loop-column.column c.at.result.now
    c.loop-column.invariant c.at.ensures (c.in_ok-append.ensures.ok ∙ ap (λ (m : List ℕ). c.loop-column.text ++ m) c.mark_text.ensures)
