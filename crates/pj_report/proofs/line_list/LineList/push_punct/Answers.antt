use Rattle.pj_report.specs.Sorted.{fed_punct}
use Rattle.pj_report.proofs.LineLists.{line_kept}
use Rattle.pj_report.proofs.line_list.LineList.push_punct.Goals as goal

pub returns-clause-ok : goal.returns-clause-ok
returns-clause-ok c =
    line_kept c.self.inside.lens c.self.inside.bytes (fed_punct c.args.punct.now) c.note_len.new.lens c.append_punct.new.bytes c.note_len.new.bytes c.len-start.result c.args.self.now c.self.view_is c.self.invariant c.len-start.ensures
    c.in_ok-append_punct.ensures.ok c.in_ok-note_len.ensures.noted c.in_ok-note_len.ensures.ok
