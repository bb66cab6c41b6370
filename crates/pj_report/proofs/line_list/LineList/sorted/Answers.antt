use Rattle.std.proofs.Common.{ap₂, ◌∙◌}
use Rattle.pj_report.specs.Sorted.{pieces}
use Rattle.pj_report.proofs.Sorting.{sorted_out}
use Rattle.pj_report.proofs.line_list.LineList.sorted.Goals as goal

pub returns : goal.returns
returns c =
    sorted_out c.in_ok-lines.lines.items c.sort_unstable.new.self.items c.args.self.now (c.in_ok-lines.ensures ∙ (ap₂ pieces c.as_slice.ensures c.as_slice-2.ensures ∙ c.self.view_is)) c.sort_unstable.ensures.permutation c.sort_unstable.ensures.sorted
