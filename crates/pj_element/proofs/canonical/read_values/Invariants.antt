use Rattle.pj_element.proofs.CanonicalCells.{ValuesSoFar}
use Rattle.pj_element.proofs.canonical.read_values.Given as goal

abbrev pub invariant-loop-column : goal.invariant-loop-column
invariant-loop-column l = ValuesSoFar l.columns l.cells l.column-index l.at l.values
