use Rattle.pj_value.proofs.StorableValues.{StorableSoFar}
use Rattle.pj_value.proofs.storable.see_columns.Given as goal

abbrev pub invariant-loop-column : goal.invariant-loop-column
invariant-loop-column l = StorableSoFar l.row l.column
