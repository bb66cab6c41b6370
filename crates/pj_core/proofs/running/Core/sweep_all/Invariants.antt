use Rattle.pj_core.specs.Turns.{IsQuiet, Makes, sweeping_upto}
use Rattle.pj_core.proofs.running.Core.sweep_all.Given as goal

abbrev pub invariant-loop-node : goal.invariant-loop-node
invariant-loop-node l = Makes l.fn.self l.self (sweeping_upto l.fn.self l.node) × IsQuiet l.self
