use Rattle.std.proofs.Common.{◌≤◌, ◌-◌, length}
use Rattle.pj_line.specs.declared.quote.Quote.TheVariants.{Outside}
use Rattle.pj_line.specs.Cutting.{Leads}
use Rattle.pj_line.proofs.cutting.cell_len.Given as goal

abbrev pub invariant-loop-at : goal.invariant-loop-at
invariant-loop-at l = record {
  within : l.at ≤ length l.line;
  leads : Leads Outside Outside l.line l.at;
}

abbrev pub decreases-loop-at : goal.decreases-loop-at
decreases-loop-at l = length l.line - l.at
