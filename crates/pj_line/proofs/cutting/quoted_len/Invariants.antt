use Rattle.std.proofs.Common.{◌≤◌, ◌-◌, length}
use Rattle.pj_line.specs.declared.quote.Quote.TheVariants.{Inside}
use Rattle.pj_line.specs.Cutting.{Leads}
use Rattle.pj_line.proofs.cutting.quoted_len.Given as goal

abbrev pub invariant-loop-run : goal.invariant-loop-run
invariant-loop-run l = record {
  within : l.at ≤ length l.bytes;
  leads : Leads Inside Inside l.bytes l.at;
}

abbrev pub decreases-loop-run : goal.decreases-loop-run
decreases-loop-run l = length l.bytes - l.at
