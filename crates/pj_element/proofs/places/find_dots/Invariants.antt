use Rattle.pj_element.proofs.Splits.{DotsPassed}
use Rattle.pj_element.proofs.places.find_dots.Given as goal

abbrev pub invariant-loop-at : goal.invariant-loop-at
invariant-loop-at l = DotsPassed l.bytes l.at l.quote
