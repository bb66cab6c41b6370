use Rattle.std.proofs.Common.{IfSome}
use Rattle.pj_recheck.specs.Recheck.{AreKeyed}
use Rattle.pj_recheck.proofs.waking.fewest_keyed.Given as goal

abbrev pub invariant-loop-at : goal.invariant-loop-at
invariant-loop-at l = IfSome l.found (λ tickets. AreKeyed l.state l.leads l.punct tickets.now)
