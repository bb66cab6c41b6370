use Rattle.pj_value.proofs.StorableValues.{StorableSoFar}
use Rattle.pj_value.proofs.storable.see_values.Given as goal

abbrev pub invariant-loop-value : goal.invariant-loop-value
invariant-loop-value l = StorableSoFar l.values l.value-index
