use Rattle.std.proofs.Common.{◌≡◌, ◌++◌, List, take}
use Rattle.pj_pattern.specs.declared.element.Element.{Element}
use Rattle.pj_events.specs.Outcomes.{elements_out}
use Rattle.pj_report.specs.Results.{counts_of}
use Rattle.pj_report.specs.Sorted.{punct_lines, row_lines}
use Rattle.pj_report.proofs.kept.KeptLines.keep.Given as goal

abbrev pub invariant-loop-handed : goal.invariant-loop-handed
invariant-loop-handed l = record {
  rows : l.self.rows ≡ l.fn.self.rows ++ row_lines (elements_out (take l.handed-index l.outs));
  puncts : l.self.puncts ≡ l.fn.self.puncts ++ punct_lines (elements_out (take l.handed-index l.outs));
  counted : (before : List Element) → l.fn.counts ≡ counts_of before → l.counts ≡ counts_of (before ++ elements_out (take l.handed-index l.outs));
}
