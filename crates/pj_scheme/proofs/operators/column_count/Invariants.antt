use Rattle.std.proofs.Common.{◌≡◌, ◌+◌, drop, sum}
use Rattle.pj_shape.specs.Sound.{arities_of}
use Rattle.pj_scheme.proofs.operators.column_count.Given as goal

abbrev pub invariant-loop-schema : goal.invariant-loop-schema
invariant-loop-schema l = l.count + sum (arities_of (drop l.schema-index l.schemas)) ≡ sum (arities_of l.schemas)
