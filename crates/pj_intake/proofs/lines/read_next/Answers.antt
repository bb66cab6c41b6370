use Rattle.std.proofs.Common.{Ok, ap, ◌∙◌}
use Rattle.pj_intake.proofs.Ended.{no_line, line_reads, read_starves}
use Rattle.pj_intake.proofs.lines.read_next.Goals as goal

pub returns-in_err-read_element-in-Ok-Whole-clause-spent : goal.returns-in_err-read_element-in-Ok-Whole-clause-spent
returns-in_err-read_element-in-Ok-Whole-clause-spent g c = λ ended none. absurd (no_line _ _ _ _ _ _ c.next_line.follows.holds-at-none (c.in-Ok-Whole.is ∙ ap Ok c.in-Ok-Whole.field-0-is) c.requires.running ended none)

pub returns-in_ok-read_element-in-Ok-Whole-clause-reads : goal.returns-in_ok-read_element-in-Ok-Whole-clause-reads
returns-in_ok-read_element-in-Ok-Whole-clause-reads g c =
    line_reads _ _ _ _ c.in-Ok-Whole.line _ _ _ c.next_line.follows.holds-at-none (c.in-Ok-Whole.is ∙ ap Ok c.in-Ok-Whole.field-0-is) c.requires.running c.requires.size c.in_ok-read_element-in-Ok-Whole.ensures

pub returns-in_ok-read_element-in-Ok-Whole-clause-spent : goal.returns-in_ok-read_element-in-Ok-Whole-clause-spent
returns-in_ok-read_element-in-Ok-Whole-clause-spent g c = λ ended none. absurd (no_line _ _ _ _ _ _ c.next_line.follows.holds-at-none (c.in-Ok-Whole.is ∙ ap Ok c.in-Ok-Whole.field-0-is) c.requires.running ended none)

pub returns-in_err-read_element-in-Ok-Whole-clause-reads : goal.returns-in_err-read_element-in-Ok-Whole-clause-reads
returns-in_err-read_element-in-Ok-Whole-clause-reads g c = read_starves _ _ _ _ c.in-Ok-Whole.line _ _ _ c.next_line.follows.holds-at-none (c.in-Ok-Whole.is ∙ ap Ok c.in-Ok-Whole.field-0-is) c.requires.running c.from_residual.ensures.1
