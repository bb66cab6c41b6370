use Rattle.std.proofs.Common.{◌∙◌, ◌++◌, ap}
use Rattle.std.specs.Prelude.{codes}
use Rattle.std.specs.Fmt.{decimal}
use Rattle.pj_report.proofs.StopLaws.{delivered_as, four_pieces}
use Rattle.pj_report.proofs.status_line.write_counts.Goals as goal

pub returns-clause-line : goal.returns-clause-line
returns-clause-line g c =
    let words = codes "# refused files want " in
    let got = codes " got " in
    let one = c.pieces_of-text.result.items in
    let two = c.append.new.text.items in
    let three = c.append-2.new.text.items in
    delivered_as three (((words ++ decimal c.args.want) ++ got) ++ decimal c.args.got) (g.K.Sink.state c.args.out.now) (g.K.Sink.state c.deliver_line.new.out)
    (four_pieces words (decimal c.args.want) got (decimal c.args.got) one two three (c.pieces_of-text.ensures ∙ ap (λ xs. words ++ xs) (c.as_bytes.ensures.value ∙ c.format-number.ensures.text))
    c.append.ensures (c.append-2.ensures ∙ ap (λ xs. two ++ xs) (c.as_bytes-2.ensures.value ∙ c.format-number-2.ensures.text))) c.deliver_line.ensures.line
