use Rattle.pj_report.specs.Sorted.{fed_row}
use Rattle.pj_report.proofs.LineLists.{line_kept}
use Rattle.pj_report.proofs.line_list.LineList.push_row.Goals as goal

pub returns-clause-ok : goal.returns-clause-ok
returns-clause-ok c =
    line_kept c.self.inside.lens c.self.inside.bytes (fed_row c.args.row.now) c.note_len.new.lens c.append_row.new.bytes c.note_len.new.bytes c.len-start.result c.args.self.now c.self.view_is c.self.invariant c.len-start.ensures
    c.in_ok-append_row.ensures.ok c.in_ok-note_len.ensures.noted c.in_ok-note_len.ensures.ok
