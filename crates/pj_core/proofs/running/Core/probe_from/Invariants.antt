use Rattle.pj_core.specs.Turns.{IsQuietBelow, Makes, probing_upto}
use Rattle.pj_core.proofs.running.Core.probe_from.Given as goal

abbrev pub invariant-loop-node : goal.invariant-loop-node
invariant-loop-node l = Makes l.fn.self l.self (probing_upto l.fn.self l.node) × IsQuietBelow l.self l.node
