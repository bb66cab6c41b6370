use Rattle.std.proofs.Common.{◌≡◌, ◌++◌, sum, take}
use Rattle.pj_events.specs.Patterns.{all_wild}
use Rattle.pj_shape.specs.Sound.{arities_of}
use Rattle.pj_waiting.proofs.widening.append_wilds.Given as goal

abbrev pub invariant-loop-schema : goal.invariant-loop-schema
invariant-loop-schema l = l.patterns ≡ l.fn.patterns ++ all_wild (sum (arities_of (take l.schema-index l.schemas)))
