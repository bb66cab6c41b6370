use Rattle.pj_core.specs.Turns.{SoFar, StaysQuietBelow, kept_pending}
use Rattle.pj_core.proofs.running.Core.probe_node.Given as goal

abbrev pub invariant-probing : goal.invariant-probing
invariant-probing l = SoFar l.fn.self l.self l.node × StaysQuietBelow l.fn.self l.self l.node

abbrev pub decreases-probing : goal.decreases-probing
decreases-probing l = kept_pending l.self l.node
