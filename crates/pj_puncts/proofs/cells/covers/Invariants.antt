use Rattle.std.proofs.Common.{◌≡◌, ◌≤◌, drop}
use Rattle.pj_events.specs.Patterns.{covers}
use Rattle.pj_shape.specs.Instances.{instance_of}
use Rattle.pj_puncts.proofs.cells.covers.Given as goal

abbrev pub invariant-loop-column : goal.invariant-loop-column
invariant-loop-column l = (l.taken ≤ l.column) × (covers l.patterns (instance_of l.scheme l.given) ≡ covers (drop l.column l.patterns) (instance_of (drop l.column l.scheme) (drop l.taken l.given)))
