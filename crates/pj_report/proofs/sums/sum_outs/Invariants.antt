use Rattle.std.proofs.Common.{◌≡◌, ◌++◌, List, take}
use Rattle.pj_pattern.specs.declared.element.Element.{Element}
use Rattle.pj_events.specs.Outcomes.{elements_out}
use Rattle.pj_report.specs.Results.{counts_of}
use Rattle.pj_report.specs.Sums.{total_of}
use Rattle.pj_report.proofs.sums.sum_outs.Given as goal

abbrev pub invariant-loop-handed : goal.invariant-loop-handed
invariant-loop-handed l = record {
  counted : (before : List Element) → l.fn.counts ≡ counts_of before → l.counts ≡ counts_of (before ++ elements_out (take l.handed-index l.outs));
  summed : (before : List Element) → l.fn.total ≡ total_of before → l.total ≡ total_of (before ++ elements_out (take l.handed-index l.outs));
}
