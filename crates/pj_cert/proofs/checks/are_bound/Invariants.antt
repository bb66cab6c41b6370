use Rattle.std.proofs.Common.{◌≡◌, drop}
use Rattle.pj_shape.specs.Sets.{are_bound}
use Rattle.pj_value.specs.Lists.{has}
use Rattle.pj_cert.proofs.checks.are_bound.Given as goal

abbrev pub invariant-loop-column : goal.invariant-loop-column
invariant-loop-column l =
    are_bound (has l.known) l.classes l.fn.input 0 l.scheme ≡ are_bound (has l.known) l.classes l.fn.input l.column (drop l.column l.scheme)
