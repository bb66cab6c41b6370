use Rattle.pj_probe.specs.Hops.{BeginsWith}
use Rattle.pj_probe.proofs.choosing.begin.Given as goal

abbrev pub invariant-loop-input : goal.invariant-loop-input
invariant-loop-input l = BeginsWith l.own l.input l.lists.items
