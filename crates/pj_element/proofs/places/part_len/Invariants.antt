use Rattle.pj_element.proofs.Splits.{PartPassed}
use Rattle.pj_element.proofs.places.part_len.Given as goal

abbrev pub invariant-loop-at : goal.invariant-loop-at
invariant-loop-at l = PartPassed l.bytes l.at l.quote
