use Rattle.pj_line.specs.declared.quote.Quote.TheVariants.{Outside}
use Rattle.pj_line.specs.Cutting.{Leads}
use Rattle.pj_line.proofs.cutting.plain_len.Given as goal

abbrev pub invariant-loop-at : goal.invariant-loop-at
invariant-loop-at l = Leads Outside Outside l.bytes l.at
