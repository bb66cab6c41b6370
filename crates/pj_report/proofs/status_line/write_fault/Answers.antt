use Rattle.std.proofs.Common.{◌∙◌, ◌++◌, ap}
use Rattle.std.specs.Prelude.{codes}
use Rattle.std.specs.Fmt.{decimal}
use Rattle.pj_report.specs.Report.{fault_words}
use Rattle.pj_report.proofs.StopLaws.{delivered_as, three_pieces}
use Rattle.pj_report.proofs.status_line.write_fault.Goals as goal

pub returns-clause-line : goal.returns-clause-line
returns-clause-line g c =
    let words = codes "# refused plan line " in
    let one = c.pieces_of-text.result.items in
    let two = c.append.new.text.items in
    delivered_as two (words ++ (decimal c.args.line ++ fault_words c.args.why)) (g.K.Sink.state c.args.out.now) (g.K.Sink.state c.deliver_line.new.out)
    (three_pieces words (decimal c.args.line) (fault_words c.args.why) one two (c.pieces_of-text.ensures ∙ ap (λ xs. words ++ xs) (c.as_bytes.ensures.value ∙ c.format-number.ensures.text))
    (c.append.ensures ∙ ap (λ xs. one ++ xs) c.fault_words.ensures.words)) c.deliver_line.ensures.line
