use Rattle.pj_core.specs.Turns.{IsQuiet, Makes, sweeping_inputs}
use Rattle.pj_core.proofs.running.Core.sweep_node.Given as goal

abbrev pub invariant-loop-input : goal.invariant-loop-input
invariant-loop-input l = Makes l.fn.self l.self (sweeping_inputs l.fn.self l.node l.input) × IsQuiet l.self
