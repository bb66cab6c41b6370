use Rattle.pj_report.proofs.LineLists.{LentSoFar}
use Rattle.pj_report.proofs.line_list.lend_pieces.Given as goal

abbrev pub invariant-loop-len : goal.invariant-loop-len
invariant-loop-len l = LentSoFar l.lens l.bytes l.lines.items l.len-index l.rest
